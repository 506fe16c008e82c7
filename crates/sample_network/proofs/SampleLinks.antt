-- The links of the sample ascend.
use Rattle.std.proofs.Common.{◌≡◌, ℕ, zero, suc, ◌+◌, ◌*◌, ◌≤◌, ◌<◌, List, [], ◌∷◌, ◌++◌, length, refl, sym, ap, ◌∙◌, arith, subst, length-append}
use Rattle.std.specs.List.{AllByRecursion, flat_map}
use Rattle.std.proofs.lemmas.List.{append-nil}
use Rattle.std.proofs.lemmas.Grind.{flat_map-append}
use Rattle.list_law.proofs.Each.{AllByRecursion-append, AllByRecursion-weaker}
use Rattle.net_base.specs.Locations.{numbers_below}
use Rattle.net_base.specs.Network.{Ascend, IsBefore}
use Rattle.net_base.proofs.NumbersBelow.{length-numbers_below, numbers-below}
use Rattle.sample_network.specs.Network.{leaf_links, peer_links}
use Rattle.sample_network.proofs.Below.{all_flat, each_below}

-- each first end is below a number, and then it is at least that
abbrev AreBelow : ℕ → List (ℕ × ℕ) → Type 0
AreBelow m links = AllByRecursion (λ (l : ℕ × ℕ). l.0 < m) links

abbrev AreFrom : ℕ → List (ℕ × ℕ) → Type 0
AreFrom m links = AllByRecursion (λ (l : ℕ × ℕ). m ≤ l.0) links

ascend_append : (xs ys : List (ℕ × ℕ)) → Ascend xs → Ascend ys → AllByRecursion (λ x. AllByRecursion (IsBefore x) ys) xs → Ascend (xs ++ ys)
ascend_append [] ys a b c = b
ascend_append (x ∷ xs) ys a b c = (AllByRecursion-append (IsBefore x) xs ys a.0 c.0, ascend_append xs ys a.1 b c.1)

before_all : (m : ℕ) (x : ℕ × ℕ) (ys : List (ℕ × ℕ)) → x.0 < m → AreFrom m ys → AllByRecursion (IsBefore x) ys
before_all m x ys low from = AllByRecursion-weaker (λ (l : ℕ × ℕ). m ≤ l.0) (IsBefore x) ys (λ y h. (omega (arith, low, h), λ e. absurd (omega (arith, low, h, e)))) from

all_before : (m : ℕ) (xs ys : List (ℕ × ℕ)) → AreBelow m xs → AreFrom m ys → AllByRecursion (λ x. AllByRecursion (IsBefore x) ys) xs
all_before m xs ys low from = AllByRecursion-weaker (λ (l : ℕ × ℕ). l.0 < m) (λ x. AllByRecursion (IsBefore x) ys) xs (λ x h. before_all m x ys h from) low

-- the links of the leaves below m
abbrev leaves_links : ℕ → ℕ → List (ℕ × ℕ)
leaves_links n m = flat_map (leaf_links n) (numbers_below m)

leaves_below : (n m : ℕ) → AreBelow m (leaves_links n m)
leaves_below n m =
    all_flat (λ (l : ℕ × ℕ). l.0 < m) (leaf_links n) (numbers_below m)
    (AllByRecursion-weaker (λ k. k < m) (λ k. AreBelow m (leaf_links n k)) (numbers_below m) (λ k low. (low, (low, (low, (low, tt))))) (numbers-below m))

one_leaf : (n k : ℕ) → Ascend (leaf_links n k)
one_leaf n k =
    ((next 0 1 (omega arith), (next 0 2 (omega arith), (next 0 3 (omega arith), tt))), ((next 1 2 (omega arith), (next 1 3 (omega arith), tt)), ((next 2 3 (omega arith), tt), (tt, tt))))
  where
    next : (i j : ℕ) → i < j → IsBefore (k, n + i) (k, n + j)
    next i j less = (omega arith, λ e. omega (arith, less))

ascend_leaves : (n m : ℕ) → Ascend (leaves_links n m)
ascend_leaves n zero = tt
ascend_leaves n (suc m) =
    let more : leaves_links n m ++ leaf_links n m ≡ leaves_links n (suc m) =
    sym (flat_map-append (leaf_links n) (numbers_below m) (m ∷ []) ∙ ap (λ ls. leaves_links n m ++ ls) (append-nil (leaf_links n m))) in
    let same : m ≤ m = omega arith in
    subst Ascend more (ascend_append (leaves_links n m) (leaf_links n m) (ascend_leaves n m) (one_leaf n m)
    (all_before m (leaves_links n m) (leaf_links n m) (leaves_below n m) (same, (same, (same, (same, tt))))))

pub sample_ascends : (n : ℕ) → Ascend (leaves_links n n ++ peer_links n)
sample_ascends n =
    ascend_append (leaves_links n n) (peer_links n) (ascend_leaves n n) (((omega arith, λ e. omega arith), tt), (tt, tt))
    (all_before n (leaves_links n n) (peer_links n) (leaves_below n n) (omega arith, (omega arith, tt)))

leaf_count : (n : ℕ) (ks : List ℕ) → length (flat_map (leaf_links n) ks) ≡ 4 * length ks
leaf_count n [] = refl
leaf_count n (k ∷ ks) = omega (arith, length-append (leaf_links n k) (flat_map (leaf_links n) ks), leaf_count n ks)

pub sample_count : (n : ℕ) → length (leaves_links n n ++ peer_links n) ≡ 4 * n + 2
sample_count n = omega (arith, length-append (leaves_links n n) (peer_links n), leaf_count n (numbers_below n), length-numbers_below n)

-- a link between a leaf or a spine, and what stands behind all leaves
abbrev IsFine : ℕ → ℕ × ℕ → Type 0
IsFine n l = (l.0 < l.1) × (l.1 < n + 6) × (l.0 < n + 4)

pub sample_ends : (n : ℕ) → AllByRecursion (IsFine n) (leaves_links n n ++ peer_links n)
sample_ends n =
    AllByRecursion-append (IsFine n) (leaves_links n n) (peer_links n)
    (all_flat (IsFine n) (leaf_links n) (numbers_below n)
    (AllByRecursion-weaker (λ k. k < n) (λ k. AllByRecursion (IsFine n) (leaf_links n k)) (numbers_below n)
    (λ k low. each_below (IsFine n) (λ j. (k, n + j)) 4 (λ j few. (omega (arith, low), omega (arith, few), omega (arith, low))))
    (numbers-below n)))
    (each_below (IsFine n) (λ j. (n + j, n + 4 + j)) 2 (λ j few. (omega arith, omega (arith, few), omega (arith, few))))
