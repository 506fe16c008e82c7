-- What links in ascending order say of the links as they stand in the text.
use Rattle.std.proofs.Common.{◌≡◌, ℕ, List, [], ◌∷◌, Bool, true, false, refl, sym, ◌∙◌, arith, eqb-true}
use Rattle.std.specs.Prelude.{◌==◌, fold, if◌then◌else◌}
use Rattle.std.specs.List.{list_any, AllByRecursion, IsDistinct}
use Rattle.std.proofs.lemmas.Bool.{or_parts, and_parts}
use Rattle.list_law.proofs.Each.{AllByRecursion-from_list_any}
use Rattle.net_base.specs.Network.{Ascend, IsBefore, is_before, same_ends}
use Rattle.net_base.proofs.Links.{same_ends-swap}
use Rattle.topology.specs.Rules.{put, ascending}
use Rattle.topology.proofs.Ascending.{list_any-put}

-- what all links have, each link has that was put there
put_all : (P : ℕ × ℕ → Type 0) (xs : List (ℕ × ℕ)) (link : ℕ × ℕ) → AllByRecursion P (put xs link) → AllByRecursion P xs × P link
put_all P [] link a = (tt, a.0)
put_all P (x ∷ xs) link a = by (is_before link x) (put_all P xs link) a
  where
    by : (b : Bool) → (AllByRecursion P (put xs link) → AllByRecursion P xs × P link) → AllByRecursion P (if b then link ∷ x ∷ xs else x ∷ put xs link) → AllByRecursion P (x ∷ xs) × P link
    by true rest a = (a.1, a.0)
    by false rest a = let r = rest a.1 in ((a.0, r.0), r.1)

all_put : (P : ℕ × ℕ → Type 0) (xs links : List (ℕ × ℕ)) → AllByRecursion P (fold put xs links) → AllByRecursion P xs × AllByRecursion P links
all_put P xs [] a = (a, tt)
all_put P xs (l ∷ ls) a =
    let r = all_put P (put xs l) ls a in
    let p = put_all P xs l r.0 in
    (p.0, (p.1, r.1))

pub all_in_text : (P : ℕ × ℕ → Type 0) (links : List (ℕ × ℕ)) → AllByRecursion P (ascending links) → AllByRecursion P links
all_in_text P links a = (all_put P [] links a).1

-- ---- no two are the same

none_any : (p : ℕ × ℕ → Bool) (xs : List (ℕ × ℕ)) → AllByRecursion (λ x. p x ≡ false) xs → list_any p xs ≡ false
none_any p [] a = refl
none_any p (x ∷ xs) a = rw (a.0, none_any p xs a.1) refl

before_differs : (a b : ℕ × ℕ) → IsBefore a b → same_ends a b ≡ false
before_differs a b before = by (same_ends a b) refl
  where
    by : (t : Bool) → same_ends a b ≡ t → t ≡ false
    by true e =
        let p = and_parts (a.0 == b.0) (a.1 == b.1) e in
        absurd (omega (arith, before.1 (eqb-true a.0 b.0 p.0), eqb-true a.1 b.1 p.1))
    by false e = refl

all_differ : (a : ℕ × ℕ) (xs : List (ℕ × ℕ)) → AllByRecursion (IsBefore a) xs → AllByRecursion (λ x. same_ends a x ≡ false) xs
all_differ a [] before = tt
all_differ a (x ∷ xs) before = (before_differs a x before.0, all_differ a xs before.1)

ascend_distinct : (xs : List (ℕ × ℕ)) → Ascend xs → IsDistinct same_ends xs
unfolding IsDistinct
ascend_distinct [] a = tt
ascend_distinct (x ∷ xs) a = (all_differ x xs a.0, ascend_distinct xs a.1)

put_distinct : (xs : List (ℕ × ℕ)) (link : ℕ × ℕ) → IsDistinct same_ends (put xs link) → IsDistinct same_ends xs × (list_any (same_ends link) xs ≡ false)
unfolding IsDistinct
put_distinct [] link d = (tt, refl)
put_distinct (x ∷ xs) link d = by (is_before link x) (put_distinct xs link) d
  where
    by : (b : Bool) → (IsDistinct same_ends (put xs link) → IsDistinct same_ends xs × (list_any (same_ends link) xs ≡ false)) → IsDistinct same_ends (if b then link ∷ x ∷ xs else x ∷ put xs link)
        → IsDistinct same_ends (x ∷ xs) × (list_any (same_ends link) (x ∷ xs) ≡ false)
    by true rest d = (d.1, none_any (same_ends link) (x ∷ xs) d.0)
    by false rest d =
        let r = rest d.1 in
        let p = or_parts (same_ends x link) (list_any (same_ends x) xs) (sym (list_any-put (same_ends x) xs link) ∙ none_any (same_ends x) (put xs link) d.0) in
        ((AllByRecursion-from_list_any (same_ends x) xs p.1, r.0), rw (same_ends-swap x link p.0, r.1) refl)

put_apart : (xs : List (ℕ × ℕ)) (l : ℕ × ℕ) (ls : List (ℕ × ℕ)) → AllByRecursion (λ m. list_any (same_ends m) (put xs l) ≡ false) ls
    → AllByRecursion (λ m. same_ends l m ≡ false) ls × AllByRecursion (λ m. list_any (same_ends m) xs ≡ false) ls
put_apart xs l [] a = (tt, tt)
put_apart xs l (m ∷ ms) a =
    let p = or_parts (same_ends m l) (list_any (same_ends m) xs) (sym (list_any-put (same_ends m) xs l) ∙ a.0) in
    let r = put_apart xs l ms a.1 in
    ((same_ends-swap m l p.0, r.0), (p.1, r.1))

fold_distinct : (xs links : List (ℕ × ℕ)) → IsDistinct same_ends (fold put xs links)
    → IsDistinct same_ends xs × IsDistinct same_ends links × AllByRecursion (λ l. list_any (same_ends l) xs ≡ false) links
unfolding IsDistinct
fold_distinct xs [] d = (d, tt, tt)
fold_distinct xs (l ∷ ls) d =
    let r = fold_distinct (put xs l) ls d in
    let p = put_distinct xs l r.0 in
    let q = put_apart xs l ls r.2 in
    (p.0, (q.0, r.1), (p.1, q.1))

-- links that ascend in order differ in the text
pub distinct_in_text : (links : List (ℕ × ℕ)) → Ascend (ascending links) → IsDistinct same_ends links
distinct_in_text links a = (fold_distinct [] links (ascend_distinct (ascending links) a)).1
