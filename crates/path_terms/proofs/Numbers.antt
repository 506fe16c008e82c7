-- A strictly ascending list of numbers is determined by its members.
use Rattle.std.proofs.Common.{◌≡◌, ℕ, Bool, true, List, [], ◌∷◌, inl, inr, ⊎_elim, map, refl, sym, ap, subst, ◌∙◌, arith}
use Rattle.std.specs.Prelude.{nat_lt}
use Rattle.std.specs.List.{list_all}
use Rattle.std.proofs.lemmas.Bool.{and_parts, ltb-true}
use Rattle.path_exprs.specs.Expression.{Expression}
use Rattle.path_exprs.specs.Normal.{sorted}
use Rattle.path_law.proofs.Sorting.{In, In-insert_each, insert_each-In}
use Rattle.path_terms.specs.Terms.{at, ascending, Among}

pub among-all : (p : ℕ → Bool) (n : ℕ) (ms : List ℕ) → list_all p ms ≡ true → Among n ms → p n ≡ true
among-all p n [] h i = absurd i
among-all p n (m ∷ ms) h i =
    let u = and_parts (p m) (list_all p ms) h in
    ⊎_elim (λ q. ap p q ∙ u.0) (λ j. among-all p n ms u.1 j) i

head-least : (n m : ℕ) (ns ms : List ℕ) → ascending (n ∷ ns) ≡ true → ascending (m ∷ ms) ≡ true → Among n (m ∷ ms) → Among m (n ∷ ns) → n ≡ m
head-least n m ns ms s t to from =
    let u = and_parts (list_all (λ k. nat_lt n k) ns) (ascending ns) s in
    let v = and_parts (list_all (λ k. nat_lt m k) ms) (ascending ms) t in
    ⊎_elim (λ q. q)
    (λ i. ⊎_elim sym
    (λ j. let above = ltb-true n m (among-all (λ k. nat_lt n k) m ns u.0 j) in let below = ltb-true m n (among-all (λ k. nat_lt m k) n ms v.0 i) in absurd (omega (arith, above, below)))
    from)
    to

tail-to : (n : ℕ) (ns ms : List ℕ) → list_all (λ k. nat_lt n k) ns ≡ true → ((k : ℕ) → Among k (n ∷ ns) → Among k (n ∷ ms)) → (k : ℕ) → Among k ns → Among k ms
tail-to n ns ms b to k i =
    ⊎_elim (λ q. let above = ltb-true n k (among-all (λ k. nat_lt n k) k ns b i) in absurd (omega (arith, above, q))) (λ j. j) (to k (inr i))

pub same_numbers : (ns ms : List ℕ) → ascending ns ≡ true → ascending ms ≡ true → ((k : ℕ) → Among k ns → Among k ms) → ((k : ℕ) → Among k ms → Among k ns) → ns ≡ ms
same_numbers [] [] s t to from = refl
same_numbers [] (m ∷ ms) s t to from = absurd (from m (inl refl))
same_numbers (n ∷ ns) [] s t to from = absurd (to n (inl refl))
same_numbers (n ∷ ns) (m ∷ ms) s t to from =
    let q = head-least n m ns ms s t (to n (inl refl)) (from m (inl refl)) in
    let to' : (k : ℕ) → Among k (n ∷ ns) → Among k (n ∷ ms) = subst (λ x. (k : ℕ) → Among k (n ∷ ns) → Among k (x ∷ ms)) (sym q) to in
    let from' : (k : ℕ) → Among k (n ∷ ms) → Among k (n ∷ ns) = subst (λ x. (k : ℕ) → Among k (x ∷ ms) → Among k (n ∷ ns)) (sym q) from in
    let u = and_parts (list_all (λ k. nat_lt n k) ns) (ascending ns) s in
    let v = and_parts (list_all (λ k. nat_lt n k) ms) (ascending ms) (subst (λ x. ascending (x ∷ ms) ≡ true) (sym q) t) in
    ap (λ l. n ∷ l) (same_numbers ns ms u.1 v.1 (tail-to n ns ms u.0 to') (tail-to n ms ns v.0 from')) ∙ ap (λ x. x ∷ ms) q

-- members and their expressions

pub In-map : (es : List Expression) (n : ℕ) (ns : List ℕ) → Among n ns → In (at es n) (map (at es) ns)
In-map es n [] i = i
In-map es n (m ∷ ns) i = ⊎_elim (λ q. inl (ap (at es) q)) (λ j. inr (In-map es n ns j)) i

pub map-In : (es : List Expression) (g : Expression) (ns : List ℕ) → In g (map (at es) ns) → (n : ℕ) × Among n ns × (g ≡ at es n)
map-In es g [] i = absurd i
map-In es g (m ∷ ns) i = ⊎_elim (λ q. (m, inl refl, q)) (λ j. let r = map-In es g ns j in (r.0, inr r.1, r.2)) i

pub In-sorted : (g : Expression) (fs : List Expression) → In g fs → In g (sorted fs)
In-sorted g fs i = insert_each-In g fs [] (inl i)

pub sorted-In : (g : Expression) (fs : List Expression) → In g (sorted fs) → In g fs
sorted-In g fs i = ⊎_elim (λ j. j) (λ j. absurd j) (In-insert_each g fs [] i)
