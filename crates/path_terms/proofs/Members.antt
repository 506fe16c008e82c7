-- Members of alternations: what they are sorted to depends on which they are alone.
use Rattle.std.proofs.Common.{◌≡◌, ℕ, zero, suc, ◌<◌, ◌≤◌, Bool, true, List, [], ◌∷◌, ◌++◌, ◌⊎◌, inl, inr, ⊎_elim, map, length, get_or, refl, sym, ap, subst}
use Rattle.std.proofs.Common.{◌∙◌, arith, append_assoc, Vec, Global}
use Rattle.std.specs.Prelude.{◌&&◌, ◌||◌, nat_lt, slice_index_or}
use Rattle.path_exprs.specs.Membership.{member, some_member, each_member}
use Rattle.std.specs.List.{list_all, list_any, Contains, dedup, AllByRecursion}
use Rattle.std.specs.List.Sorted.{IsStrictlySortedBy, IsSorted, IsPermutation}
use Rattle.std.specs.Ordering.{nat_cmp, eq_by_cmp, is_eq}
use Rattle.std.specs.declared.cmp.Ordering.{Ordering}
use Rattle.std.specs.declared.cmp.Ordering.TheVariants.{Less, Equal, Greater}
use Rattle.std.proofs.lemmas.Bool.{and_parts, and_from, lt-ltb, ne_eqb, eq-eqb, false≢true, or_cases, or_left, or_right, ltb-true}
use Rattle.std.proofs.lemmas.Cmp.{ranked, nat_cmp_total}
use Rattle.std.proofs.lemmas.List.{append-nil, map-append}
use Rattle.std.proofs.lemmas.List.Kept.{IsStrictlySortedBy-dedup, Contains-dedup_nat, Contains-from_dedup}
use Rattle.std.proofs.lemmas.List.Sorted.{Contains-permutation, IsPermutation-sym}
use Rattle.path_exprs.specs.Expression.{Expression, never, either, both, expressions_of}
use Rattle.path_exprs.specs.Normal.{sorted, either_parts}
use Rattle.list_law.proofs.Truth.{same_tests}
use Rattle.path_law.proofs.Sorting.{In, same_members, ascends-sorted}
use Rattle.path_terms.specs.declared.term.Term.{Term}
use Rattle.path_terms.specs.declared.term.Term.TheVariants.{Never, Empty, Set, Seq, Either, Both, Not, Star}
use Rattle.path_terms.specs.Terms.{at, node, ascending, are_known, Among, IsAscendingOf}
use Rattle.path_terms.proofs.Numbers.{among-all, In-map, map-In, In-sorted, sorted-In}
use lib.Dec.{eqb}

pub sorted-same : (es fs : List Expression) → ((g : Expression) → In g es → In g fs) → ((g : Expression) → In g fs → In g es) → sorted es ≡ sorted fs
sorted-same es fs to from =
    same_members (sorted es) (sorted fs) (ascends-sorted es) (ascends-sorted fs)
    (λ g i. In-sorted g fs (to g (sorted-In g es i))) (λ g i. In-sorted g es (from g (sorted-In g fs i)))

pub sorted-sorted : (es : List Expression) → sorted (sorted es) ≡ sorted es
sorted-sorted es = sorted-same (sorted es) es (λ g i. sorted-In g es i) (λ g i. In-sorted g es i)

carried : (g : Expression) (es fs : List Expression) → sorted es ≡ sorted fs → In g es → In g fs
carried g es fs q i = sorted-In g fs (subst (In g) q (In-sorted g es i))

pub In-append : (g : Expression) (es fs : List Expression) → In g (es ++ fs) → In g es ⊎ In g fs
In-append g [] fs i = inr i
In-append g (e ∷ es) fs i = ⊎_elim (λ q. inl (inl q)) (λ j. ⊎_elim (λ k. inl (inr k)) inr (In-append g es fs j)) i

pub append-In : (g : Expression) (es fs : List Expression) → In g es ⊎ In g fs → In g (es ++ fs)
append-In g [] fs i = ⊎_elim (λ j. absurd j) (λ j. j) i
append-In g (e ∷ es) fs i = ⊎_elim (λ j. ⊎_elim inl (λ k. inr (append-In g es fs (inl k))) j) (λ j. inr (append-In g es fs (inr j))) i

pub sorted-append : (es es' fs fs' : List Expression) → sorted es ≡ sorted es' → sorted fs ≡ sorted fs' → sorted (es ++ fs) ≡ sorted (es' ++ fs')
sorted-append es es' fs fs' p q =
    sorted-same (es ++ fs) (es' ++ fs')
    (λ g i. append-In g es' fs' (⊎_elim (λ j. inl (carried g es es' p j)) (λ j. inr (carried g fs fs' q j)) (In-append g es fs i)))
    (λ g i. append-In g es fs (⊎_elim (λ j. inl (carried g es' es (sym p) j)) (λ j. inr (carried g fs' fs (sym q) j)) (In-append g es' fs' i)))

-- what a member adds

pub add-nothing : (es : List Expression) (e : Expression) → e ≡ never → sorted es ≡ sorted (es ++ either_parts e)
add-nothing es e q = ap sorted (sym (append-nil es) ∙ ap (λ x. es ++ either_parts x) (sym q))

parts-default : (vs : List Expression) (t : Term) → (t ≡ Never → ⊥) → ((v : Vec ℕ Global) → t ≡ Either v → ⊥) → either_parts (node vs t) ≡ node vs t ∷ []
parts-default vs Never h k = absurd (h refl)
parts-default vs Empty h k = refl
parts-default vs (Set s) h k = refl
parts-default vs (Seq a b) h k = refl
parts-default vs (Either v) h k = absurd (k v refl)
parts-default vs (Both v) h k = refl
parts-default vs (Not a) h k = refl
parts-default vs (Star a) h k = refl

pub add-one : (vs : List Expression) (ns : List ℕ) (n : ℕ) (t : Term) → at vs n ≡ node vs t → (t ≡ Never → ⊥) → ((v : Vec ℕ Global) → t ≡ Either v → ⊥)
    → sorted (map (at vs) (ns ++ n ∷ [])) ≡ sorted (map (at vs) ns ++ either_parts (at vs n))
add-one vs ns n t q h k =
    ap sorted (map-append (at vs) ns (n ∷ []))
    ∙ ap (λ l. sorted (map (at vs) ns ++ l)) (ap (λ e. e ∷ []) q ∙ sym (parts-default vs t h k) ∙ ap either_parts (sym q))

pub flat-step : (es fs parts rest : List Expression) → sorted fs ≡ sorted (es ++ parts) → sorted (es ++ (parts ++ rest)) ≡ sorted (fs ++ rest)
flat-step es fs parts rest q =
    ap sorted (sym (append_assoc es parts rest)) ∙ sorted-append (es ++ parts) fs rest rest (sym q) refl

-- settling

at_least_one : (x : ℕ) (xs : List ℕ) (k : ℕ) → k < length xs → get_or xs k x ≡ x → Among x xs
at_least_one x [] k p q = absurd (omega (arith, p))
at_least_one x (y ∷ ys) zero p q = inl (sym q)
at_least_one x (y ∷ ys) (suc k) p q = inr (at_least_one x ys k (omega (arith, p)) q)

from_Contains : (xs : List ℕ) (x : ℕ) → Contains xs x → Among x xs
from_Contains xs x c = at_least_one x xs c.0 c.1 c.2

to_Contains : (xs : List ℕ) (x : ℕ) → Among x xs → Contains xs x
to_Contains [] x i = absurd i
to_Contains (y ∷ ys) x i =
    ⊎_elim (λ q. (0, omega arith, sym q))
    (λ j. let r = to_Contains ys x j in (suc r.0, omega (arith, r.1), r.2)) i

ascends : (xs : List ℕ) → IsStrictlySortedBy nat_cmp xs → ascending xs ≡ true
unfolding IsStrictlySortedBy
ascends [] s = refl
ascends (x ∷ xs) s = and_from (list_all (λ m. nat_lt x m) xs) (ascending xs) (below xs s.0) (ascends xs s.1)
  where
    below : (ys : List ℕ) → AllByRecursion (λ y. nat_cmp x y ≡ Less) ys → list_all (λ m. nat_lt x m) ys ≡ true
    below [] b = refl
    below (y ∷ ys) b = and_from (nat_lt x y) (list_all (λ m. nat_lt x m) ys) (lt-ltb x y (ranked x y Less (sym b.0))) (below ys b.1)

pub settled : (old mid new : List ℕ) → IsPermutation old mid → IsSorted nat_cmp mid → new ≡ dedup eqb mid → IsAscendingOf old new
settled old mid new p s e =
    subst (IsAscendingOf old) (sym e) (
      ascends (dedup eqb mid) (IsStrictlySortedBy-dedup nat_cmp_total ties mid s),
      (λ n i. from_Contains (dedup eqb mid) n (Contains-dedup_nat mid n (Contains-permutation old mid n p (to_Contains old n i)))),
      (λ n i. from_Contains old n (Contains-permutation mid old n (IsPermutation-sym old mid p) (Contains-from_dedup eqb mid n (to_Contains (dedup eqb mid) n i)))),
    )
  where
    ties : (x y : ℕ) → eqb x y ≡ eq_by_cmp nat_cmp x y
    ties x y = by_order (nat_cmp x y) refl tt
      where
        by_order : (o : Ordering) → nat_cmp x y ≡ o → Unit {0} → eqb x y ≡ eq_by_cmp nat_cmp x y
        by_order Less h m = let lt = ranked x y Less (sym h) in ne_eqb x y (λ q. omega (arith, lt, q)) ∙ sym (ap is_eq h)
        by_order Equal h m = eq-eqb x y (ranked x y Equal (sym h)) ∙ sym (ap is_eq h)
        by_order Greater h m = let gt = ranked x y Greater (sym h) in ne_eqb x y (λ q. omega (arith, gt, q)) ∙ sym (ap is_eq h)

pub sorted-settled : (vs : List Expression) (old new : List ℕ) → IsAscendingOf old new → sorted (map (at vs) new) ≡ sorted (map (at vs) old)
sorted-settled vs old new s =
    sorted-same (map (at vs) new) (map (at vs) old)
    (λ g i. let r = map-In vs g new i in subst (λ e. In e (map (at vs) old)) (sym r.2) (In-map vs r.0 old (s.2 r.0 r.1)))
    (λ g i. let r = map-In vs g old i in subst (λ e. In e (map (at vs) new)) (sym r.2) (In-map vs r.0 new (s.1 r.0 r.1)))

all-among : (p : ℕ → Bool) (ms : List ℕ) → ((n : ℕ) → Among n ms → p n ≡ true) → list_all p ms ≡ true
all-among p [] h = refl
all-among p (m ∷ ms) h = and_from (p m) (list_all p ms) (h m (inl refl)) (all-among p ms (λ n i. h n (inr i)))

pub known-settled : (k : ℕ) (old new : List ℕ) → IsAscendingOf old new → are_known k old ≡ true → are_known k new ≡ true
known-settled k old new s h = all-among (λ n. nat_lt n k) new (λ n i. among-all (λ m. nat_lt m k) n old h (s.2 n i))

-- a member that passes a test

any-In : (p : Expression → Bool) (es : List Expression) → list_any p es ≡ true → (g : Expression) × In g es × (p g ≡ true)
any-In p [] h = absurd (false≢true h)
any-In p (e ∷ es) h = ⊎_elim (λ q. (e, inl refl, q)) (λ q. let r = any-In p es q in (r.0, inr r.1, r.2)) (or_cases (p e) (list_any p es) h)

In-any : (p : Expression → Bool) (g : Expression) (es : List Expression) → In g es → p g ≡ true → list_any p es ≡ true
In-any p g [] i h = absurd i
In-any p g (e ∷ es) i h = ⊎_elim (λ q. or_left (p e) (list_any p es) (ap p (sym q) ∙ h)) (λ j. or_right (p e) (list_any p es) (In-any p g es j h)) i

pub any-sorted : (p : Expression → Bool) (es : List Expression) → list_any p es ≡ list_any p (sorted es)
any-sorted p es =
    same_tests (list_any p es) (list_any p (sorted es))
    (λ h. let r = any-In p es h in In-any p r.0 (sorted es) (In-sorted r.0 es r.1) r.2)
    (λ h. let r = any-In p (sorted es) h in In-any p r.0 es (sorted-In r.0 es r.1) r.2)

pub known-first : (k : ℕ) (ns : List ℕ) → 1 ≤ length ns → are_known k ns ≡ true → slice_index_or ns 0 0 < k
known-first k [] g h = absurd (omega (arith, g))
known-first k (n ∷ ns) g h = ltb-true n k (and_parts (nat_lt n k) (are_known k ns) h).0

-- the empty list in an alternation and in an intersection

some_member-any : (es : List Expression) → list_any (λ e. member e []) es ≡ some_member (expressions_of es) []
some_member-any [] = refl
some_member-any (e ∷ es) = ap (λ b. member e [] || b) (some_member-any es)

each_member-all : (es : List Expression) → list_all (λ e. member e []) es ≡ each_member (expressions_of es) []
each_member-all [] = refl
each_member-all (e ∷ es) = ap (λ b. member e [] && b) (each_member-all es)

all-In : (p : Expression → Bool) (g : Expression) (es : List Expression) → list_all p es ≡ true → In g es → p g ≡ true
all-In p g [] h i = absurd i
all-In p g (e ∷ es) h i = let u = and_parts (p e) (list_all p es) h in ⊎_elim (λ q. ap p q ∙ u.0) (λ j. all-In p g es u.1 j) i

In-all : (p : Expression → Bool) (es : List Expression) → ((g : Expression) → In g es → p g ≡ true) → list_all p es ≡ true
In-all p [] h = refl
In-all p (e ∷ es) h = and_from (p e) (list_all p es) (h e (inl refl)) (In-all p es (λ g i. h g (inr i)))

pub all-sorted : (p : Expression → Bool) (es : List Expression) → list_all p es ≡ list_all p (sorted es)
all-sorted p es =
    same_tests (list_all p es) (list_all p (sorted es))
    (λ h. In-all p (sorted es) (λ g i. all-In p g es h (sorted-In g es i)))
    (λ h. In-all p es (λ g i. all-In p g (sorted es) h (In-sorted g es i)))

pub holds-either : (vs : List Expression) (ms : List ℕ) (e : Expression) → e ≡ either (expressions_of (sorted (map (at vs) ms))) → list_any (λ e. member e []) (map (at vs) ms) ≡ member e []
holds-either vs ms e q =
    any-sorted (λ e. member e []) (map (at vs) ms) ∙ some_member-any (sorted (map (at vs) ms)) ∙ sym (ap (λ e. member e []) q)

pub holds-both : (vs : List Expression) (ms : List ℕ) (e : Expression) → e ≡ both (expressions_of (sorted (map (at vs) ms))) → list_all (λ e. member e []) (map (at vs) ms) ≡ member e []
holds-both vs ms e q =
    all-sorted (λ e. member e []) (map (at vs) ms) ∙ each_member-all (sorted (map (at vs) ms)) ∙ sym (ap (λ e. member e []) q)
