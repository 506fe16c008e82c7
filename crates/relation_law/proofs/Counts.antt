-- Numbers that meet the rules exist exactly where the greatest closed relation is total.
use Rattle.std.proofs.Common.{◌≡◌, ℕ, zero, suc, ◌<◌, ◌≤◌, Bool, true, false, not, ◌&&◌, nat_le, inl, inr, arith, refl, sym, ap, ◌∙◌}
use Rattle.std.proofs.lemmas.Bool.{or_cases, cases_Bool, cases_lt, and_parts, and_from, and_right, not-true, not_from_true, not_from_false, both_ways, leb-true, le-leb}
use Rattle.std.proofs.lemmas.Bool.{true_from_ne_false, false_from_ne_true}
use Rattle.relation_law.specs.Numbers.{AreNumbers, any_below, count_below, is_lower, is_first, number_of}
use Rattle.relation_law.specs.Relations.{Meets, Pair, IsClosed, IsGreatest, IsTotal}
use Rattle.relation_law.specs.Rounds.{is_pair}
use Rattle.relation_law.specs.Views.{View}
use Rattle.relation_law.proofs.Ranks.{no_worse_trans}
use Rattle.relation_law.proofs.Rounds.{Answer, Hearer, Meets-wider, pair_from, pair_to}
use Rattle.relation_law.proofs.Tests.{any_found, any_at, none_at, none_below, count_le, count_lt}

-- the pairs that numbers put in order are a closed relation
pub by_number : View → (ℕ → ℕ) → ℕ → ℕ → Bool
by_number v of m n = is_pair v m n && nat_le (of n) (of m)

pub by_number-closed : (v : View) (of : ℕ → ℕ) → AreNumbers v of → IsClosed v (by_number v of)
unfolding by_number
by_number-closed v of h m n e =
    let p = and_parts _ _ e in
    let q : Pair v m n = pair_from v m n p.0 in
    (q, Meets-wider v (λ a b. nat_le (of b) (of a)) (by_number v of) m n (h m n q (leb-true _ _ p.1)) (λ a b ab le. and_from _ _ (pair_to v a b ab) le))

-- of each two nodes at one location it has one direction
pub by_number-total : (v : View) (of : ℕ → ℕ) → IsTotal v (by_number v of)
unfolding by_number
by_number-total v of m n p = elim (cases_lt (of m) (of n)) [
  | inl lt ↦ inr (and_from _ _ (pair_to v n m (record { left = p.right; right = p.left; place = sym p.place })) (le-leb _ _ (omega arith)))
  | inr le ↦ inl (and_from _ _ (pair_to v m n p) (le-leb _ _ le))
]

-- numbers exist only where the greatest closed relation is total
pub numbers_give_total : (v : View) (r : ℕ → ℕ → Bool) (of : ℕ → ℕ) → IsGreatest v r → AreNumbers v of → IsTotal v r
numbers_give_total v r of g h m n p = elim (by_number-total v of m n p) [
  | inl e ↦ inl (g.greatest (by_number v of) (by_number-closed v of h) m n e)
  | inr e ↦ inr (g.greatest (by_number v of) (by_number-closed v of h) n m e)
]

-- there is one greatest closed relation
pub one_greatest : (v : View) (r s : ℕ → ℕ → Bool) → IsGreatest v r → IsGreatest v s → (m n : ℕ) → r m n ≡ s m n
one_greatest v r s a b m n = elim (cases_Bool (r m n)) [
  | inl e ↦ e ∙ sym (b.greatest r a.closed m n e)
  | inr e ↦ e ∙ sym (false_from_ne_true _ (λ h. both_ways _ e (a.greatest s b.closed m n h)))
]

-- ---- the greatest closed relation is transitive

composed : View → (ℕ → ℕ → Bool) → ℕ → ℕ → Bool
composed v r m n = any_below v.size (λ p. r m p && r p n)

composed_at : (v : View) (r : ℕ → ℕ → Bool) → IsClosed v r → (m p n : ℕ) → r m p ≡ true → r p n ≡ true → composed v r m n ≡ true
unfolding composed
composed_at v r c m p n a b = any_at v.size (λ p. r m p && r p n) p (c m p a).0.right (and_from _ _ a b)

composed-closed : (v : View) (r : ℕ → ℕ → Bool) → IsClosed v r → IsClosed v (composed v r)
unfolding composed
composed-closed v r c m n e =
    let f : (p : ℕ) × (p < v.size) × ((r m p && r p n) ≡ true) = any_found v.size (λ p. r m p && r p n) e in
    let p : ℕ = f.0 in
    let q : (r m p ≡ true) × (r p n ≡ true) = and_parts _ _ f.2 in
    let mp : Pair v m p × Meets v r m p = c m p q.0 in
    let pn : Pair v p n × Meets v r p n = c p n q.1 in (
      record { left = mp.0.left; right = pn.0.right; place = mp.0.place ∙ pn.0.place },
      record {
        rank = λ cl. no_worse_trans (v.rank m) (v.rank p) (v.rank n) (mp.1.rank (ap v.claimed pn.0.place ∙ cl)) (pn.1.rank cl);
        step = λ t lt st.
            let x : Answer v r p t = pn.1.step t lt st in
            let y : Answer v r m x.0 = mp.1.step x.0 x.1 x.2 in
            (y.0, y.1, y.2, y.3 ∙ x.3, any_at v.size (λ p. r y.0 p && r p t) x.0 x.1 (and_from _ _ y.4 x.4));
        loop = λ t k lt lk st e leads.
            let x : Answer v r p t = pn.1.step t lt st in
            any_at v.size (λ p. r k p && r p t) x.0 x.1 (and_from _ _ (mp.1.loop x.0 k x.1 lk x.2 (e ∙ sym x.3) leads) x.4);
        listener = λ t lt st.
            let x : Hearer v p t = pn.1.listener t lt st in
            let y : Hearer v m x.0 = mp.1.listener x.0 x.1 x.2 in
            (y.0, y.1, y.2, y.3 ∙ x.3, no_worse_trans (v.rank y.0) (v.rank x.0) (v.rank t) y.4 x.4);
      },
    )

pub transitive : (v : View) (r : ℕ → ℕ → Bool) → IsGreatest v r → (m p n : ℕ) → r m p ≡ true → r p n ≡ true → r m n ≡ true
transitive v r g m p n a b = g.greatest (composed v r) (composed-closed v r g.closed) m n (composed_at v r g.closed m p n a b)

-- ---- the class counts

-- the least that passes
least : (p : ℕ → Bool) (n : ℕ) → any_below n p ≡ true → (j : ℕ) × (j < n) × (p j ≡ true) × (any_below j p ≡ false)
least p zero e = absurd (cc)
least p (suc n) e =
    elim (cases_Bool (any_below n p)) [
      | inl f ↦ (let x : (j : ℕ) × (j < n) × (p j ≡ true) × (any_below j p ≡ false) = least p n f in (x.0, omega arith, x.2, x.3))
      | inr f ↦ elim (or_cases (p n) (any_below n p) e) [ inl g ↦ (n, omega arith, g, f) | inr g ↦ absurd (both_ways _ f g) ]
    ]

module _ (v : View) (r : ℕ → ℕ → Bool) (g : IsGreatest v r) (total : IsTotal v r) where
  -- the least node of a node's class
  first_of_class : (m : ℕ) → m < v.size → (j : ℕ) × (j < v.size) × (r j m ≡ true) × (r m j ≡ true) × (is_first r j ≡ true)
  first_of_class m lt =
      let self : Pair v m m = record { left = lt; right = lt; place = refl } in
      let own : r m m ≡ true = elim (total m m self) [ inl e ↦ e | inr e ↦ e ] in
      let x : (j : ℕ) × (j < v.size) × ((r j m && r m j) ≡ true) × (any_below j (λ q. r q m && r m q) ≡ false) =
      least (λ q. r q m && r m q) v.size (any_at v.size (λ q. r q m && r m q) m lt (and_from _ _ own own)) in
      let y : (r x.0 m ≡ true) × (r m x.0 ≡ true) = and_parts _ _ x.2 in (
        x.0,
        x.1,
        y.0,
        y.1,
        not_from_false _ (none_below x.0 (λ q. r x.0 q && r q x.0) (λ q less e.
            let z : (r x.0 q ≡ true) × (r q x.0 ≡ true) = and_parts _ _ e in
            both_ways _ (none_at x.0 (λ q. r q m && r m q) q x.3 less)
            (and_from _ _ (transitive v r g q x.0 m z.1 y.0) (transitive v r g m x.0 q y.1 z.0)))),
      )

  -- what is above in the relation has no lesser number
  number_le : (m n : ℕ) → r m n ≡ true → number_of v.size r n ≤ number_of v.size r m
  number_le m n e =
      let c : count_below v.size (λ p. is_first r p && is_lower r p n) ≤ count_below v.size (λ p. is_first r p && is_lower r p m) =
      count_le v.size (λ p. is_first r p && is_lower r p n) (λ p. is_first r p && is_lower r p m) (λ p lt f.
      let a = and_parts _ _ f in
      let b : (r n p ≡ true) × (not (r p n) ≡ true) = and_parts _ _ a.1 in
      and_from _ _ a.0 (and_from _ _ (transitive v r g m n p e b.0)
      (not_from_false _ (false_from_ne_true _ (λ pm. both_ways _ (not-true _ b.1) (transitive v r g p m n pm e)))))) in
      omega arith

  -- what isn't above has a lesser number
  number_lt : (m n : ℕ) → Pair v m n → r m n ≡ false → number_of v.size r m < number_of v.size r n
  number_lt m n pair f =
      let nm : r n m ≡ true = elim (total m n pair) [ inl e ↦ absurd (both_ways _ f e) | inr e ↦ e ] in
      let x : (j : ℕ) × (j < v.size) × (r j m ≡ true) × (r m j ≡ true) × (is_first r j ≡ true) = first_of_class m pair.left in
      let c : count_below v.size (λ p. is_first r p && is_lower r p m) < count_below v.size (λ p. is_first r p && is_lower r p n) =
      count_lt v.size (λ p. is_first r p && is_lower r p m) (λ p. is_first r p && is_lower r p n) x.0 x.1
      (and_right _ _ (and_right _ _ (not_from_true _ x.2)))
      (and_from _ _ x.4 (and_from _ _ (transitive v r g n m x.0 nm x.3)
      (not_from_false _ (false_from_ne_true _ (λ xn. both_ways _ f (transitive v r g m x.0 n x.3 xn))))))
      (λ p lt h.
      let a = and_parts _ _ h in
      let b : (r m p ≡ true) × (not (r p m) ≡ true) = and_parts _ _ a.1 in
      and_from _ _ a.0 (and_from _ _ (transitive v r g n m p nm b.0)
      (not_from_false _ (false_from_ne_true _ (λ pn. both_ways _ (not-true _ b.1) (transitive v r g p n m pn nm)))))) in
      omega arith

  pub counts_are_numbers : AreNumbers v (number_of v.size r)
  counts_are_numbers m n pair le =
      let mn : r m n ≡ true = true_from_ne_false _ (λ f. let lt : number_of v.size r m < number_of v.size r n = number_lt m n pair f in omega arith) in
      Meets-wider v r (λ a b. nat_le (number_of v.size r b) (number_of v.size r a)) m n (g.closed m n mn).1 (λ a b ab e. le-leb _ _ (number_le a b e))
