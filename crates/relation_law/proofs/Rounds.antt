-- What the rounds leave is the greatest closed relation.
use Rattle.std.proofs.Common.{◌≡◌, ℕ, zero, suc, ◌<◌, Bool, true, false, not, ◌&&◌, ◌||◌, inl, inr, refl, sym, ◌∙◌}
use Rattle.std.proofs.lemmas.Bool.{or_cases, or_parts, or_from, cases_Bool, and_parts, and_from, and_cases, not-true, not-false, not_from_false, both_ways, eqb-true}
use Rattle.std.proofs.lemmas.Bool.{eq-eqb, ltb-true, lt-ltb, false_from_ne_true, cond-true, cond-false}
use Rattle.relation_law.specs.Relations.{Pair, Meets, IsClosed, IsGreatest, IsTotal, no_worse, steps_on, is_heard}
use Rattle.relation_law.specs.Rounds.{IsReach, same_place, has_answer, is_heard_there, is_looped, fails_at, fails, gone_after, is_pair, left_after, TakesNothingMore}
use Rattle.relation_law.specs.Views.{View}
use Rattle.relation_law.proofs.Tests.{any_found, any_at, none_at, none_below}

-- a node to which m steps where t stands, above t
abbrev pub Answer : View → (ℕ → ℕ → Bool) → ℕ → ℕ → Type 0
Answer v above m t = (s : ℕ) × (s < v.size) × (steps_on v m s ≡ true) × (v.place s ≡ v.place t) × (above s t ≡ true)

-- a node that hears m where t stands, with no worse a rank
abbrev pub Hearer : View → ℕ → ℕ → Type 0
Hearer v m t = (s : ℕ) × (s < v.size) × (is_heard v m s ≡ true) × (v.place s ≡ v.place t) × (no_worse (v.rank s) (v.rank t) ≡ true)

-- Rules that are met against a relation are met against one that has its pairs of one location.
pub Meets-wider : (v : View) (r s : ℕ → ℕ → Bool) (m n : ℕ) → Meets v r m n → ((a b : ℕ) → Pair v a b → r a b ≡ true → s a b ≡ true) → Meets v s m n
Meets-wider v r s m n h w = record {
  rank = h.rank;
  step = λ t lt st. let f : Answer v r m t = h.step t lt st in
      (f.0, f.1, f.2, f.3, w f.0 t (record { left = f.1; right = lt; place = f.3 }) f.4);
  loop = λ t k lt lk st e leads. w k t (record { left = lk; right = lt; place = e }) (h.loop t k lt lk st e leads);
  listener = h.listener;
}

pub pair_from : (v : View) (m n : ℕ) → is_pair v m n ≡ true → Pair v m n
pair_from v m n h =
    let p = and_parts _ _ h in
    let q = and_parts _ _ p.1 in
    record { left = ltb-true _ _ p.0; right = ltb-true _ _ q.0; place = eqb-true _ _ q.1 }

pub pair_to : (v : View) (m n : ℕ) → Pair v m n → is_pair v m n ≡ true
pair_to v m n p = and_from _ _ (lt-ltb _ _ p.left) (and_from _ _ (lt-ltb _ _ p.right) (eq-eqb _ _ p.place))

-- where t hears, the rule fails unless m is heard there
pub fails_heard : (v : View) (reach gone : ℕ → ℕ → Bool) (m t : ℕ) → v.hears t ≡ true → fails_at v reach gone m t ≡ not (is_heard_there v m t)
fails_heard v reach gone m t h = cond-true (v.hears t) _ _ h

pub fails_stepped : (v : View) (reach gone : ℕ → ℕ → Bool) (m t : ℕ) → v.hears t ≡ false → fails_at v reach gone m t ≡ (not (has_answer v gone m t) || is_looped v reach gone m t)
fails_stepped v reach gone m t h = cond-false (v.hears t) _ _ h

-- the test passes only where the first node leads to the second
abbrev pub IsSound : View → (ℕ → ℕ → Bool) → Type 0
IsSound v reach = (a b : ℕ) → a < v.size → b < v.size → reach a b ≡ true → v.Leads a b

-- it passes wherever it does
abbrev pub IsWhole : View → (ℕ → ℕ → Bool) → Type 0
IsWhole v reach = (a b : ℕ) → a < v.size → b < v.size → v.Leads a b → reach a b ≡ true

module _ (v : View) (reach : ℕ → ℕ → Bool) (sound : IsSound v reach) where
  -- where the rules are met against a relation of which no pair has gone, none fails at a step
  none_fails_at : (r gone : ℕ → ℕ → Bool) (m n t : ℕ) → m < v.size → t < v.size → Meets v r m n → ((a b : ℕ) → r a b ≡ true → gone a b ≡ false)
      → v.step n t ≡ true → fails_at v reach gone m t ≡ true → ⊥
  none_fails_at r gone m n t lm lt h left st e = elim (cases_Bool (v.hears t)) [
    | inl l ↦ (
        let none : is_heard_there v m t ≡ false = not-true _ (sym (fails_heard v reach gone m t l) ∙ e) in
        let x : Hearer v m t = h.listener t lt (and_from _ _ st l) in
        both_ways _ none (any_at v.size (λ s. is_heard v m s && (same_place v s t && no_worse (v.rank s) (v.rank t))) x.0 x.1 (and_from _ _ x.2 (and_from _ _ (eq-eqb _ _ x.3) x.4))))
    | inr l ↦ elim (or_cases (not (has_answer v gone m t)) (is_looped v reach gone m t) (sym (fails_stepped v reach gone m t l) ∙ e)) [
      | inl f ↦ (
          let x : Answer v r m t = h.step t lt (and_from _ _ st (not_from_false _ l)) in
          both_ways _ (not-true _ f) (any_at v.size (λ s. steps_on v m s && (same_place v s t && not (gone s t))) x.0 x.1
          (and_from _ _ x.2 (and_from _ _ (eq-eqb _ _ x.3) (not_from_false _ (left x.0 t x.4))))))
      | inr f ↦ (
          let y : (k : ℕ) × (k < v.size) × ((same_place v k t && (reach k m && gone k t)) ≡ true) = any_found v.size (λ k. same_place v k t && (reach k m && gone k t)) f in
          let y1 = and_parts _ _ y.2 in
          let y2 = and_parts _ _ y1.1 in
          both_ways _ (left y.0 t (h.loop t y.0 lt y.1 (and_from _ _ st (not_from_false _ l)) (eqb-true _ _ y1.0) (sound y.0 m y.1 lm y2.0))) y2.1)
    ]
  ]

  pub no_rule_fails : (r gone : ℕ → ℕ → Bool) (m n : ℕ) → m < v.size → Meets v r m n → ((a b : ℕ) → r a b ≡ true → gone a b ≡ false) → fails v reach gone m n ≡ false
  no_rule_fails r gone m n lm h left =
      or_from _ _
      (false_from_ne_true _ (λ e.
      let p = and_parts (v.claimed (v.place n)) (not (no_worse (v.rank m) (v.rank n))) e in
      both_ways _ (not-true _ p.1) (h.rank p.0)))
      (none_below v.size (λ t. v.step n t && fails_at v reach gone m t) (λ t lt e.
      let p = and_parts (v.step n t) (fails_at v reach gone m t) e in
      none_fails_at r gone m n t lm lt h left p.0 p.1))

  -- No pair of a closed relation ever goes.
  pub closed_stays : (s : ℕ → ℕ → Bool) → IsClosed v s → (rounds m n : ℕ) → s m n ≡ true → gone_after v reach rounds m n ≡ false
  closed_stays s c zero m n h = refl
  closed_stays s c (suc rounds) m n h =
      or_from _ _ (closed_stays s c rounds m n h)
      (no_rule_fails s (gone_after v reach rounds) m n (c m n h).0.left (c m n h).1 (λ a b e. closed_stays s c rounds a b e))

module _ (v : View) (reach : ℕ → ℕ → Bool) (whole : IsWhole v reach) where
  -- Where no rule fails, the rules are met against the pairs of one location that haven't gone.
  pub rules_are_met : (gone : ℕ → ℕ → Bool) (m n : ℕ) → m < v.size → fails v reach gone m n ≡ false → Meets v (λ a b. is_pair v a b && not (gone a b)) m n
  rules_are_met gone m n lm h =
      let parts = or_parts (v.claimed (v.place n) && not (no_worse (v.rank m) (v.rank n))) _ h in
      let at_step : (t : ℕ) → t < v.size → v.step n t ≡ true → fails_at v reach gone m t ≡ false = λ t lt st.
      false_from_ne_true _ (λ e. both_ways _ (none_at v.size (λ t. v.step n t && fails_at v reach gone m t) t parts.1 lt) (and_from _ _ st e)) in
      let stepped : (t : ℕ) → t < v.size → steps_on v n t ≡ true → (has_answer v gone m t ≡ true) × (is_looped v reach gone m t ≡ false) = λ t lt st.
      (let p = and_parts (v.step n t) (not (v.hears t)) st in
      let q = or_parts (not (has_answer v gone m t)) (is_looped v reach gone m t) (sym (fails_stepped v reach gone m t (not-true _ p.1)) ∙ at_step t lt p.0) in
      (not-false _ q.0, q.1)) in
      let pair : (a b : ℕ) → a < v.size → b < v.size → v.place a ≡ v.place b → gone a b ≡ false → (is_pair v a b && not (gone a b)) ≡ true = λ a b la lb e g.
      and_from _ _ (pair_to v a b (record { left = la; right = lb; place = e })) (not_from_false _ g) in
      record {
        rank = λ c. elim (and_cases _ _ parts.0) [ inl e ↦ absurd (both_ways _ e c) | inr e ↦ not-false _ e ];
        step = λ t lt st.
            let x : (s : ℕ) × (s < v.size) × ((steps_on v m s && (same_place v s t && not (gone s t))) ≡ true) =
            any_found v.size (λ s. steps_on v m s && (same_place v s t && not (gone s t))) (stepped t lt st).0 in
            let x1 = and_parts (steps_on v m x.0) _ x.2 in
            let x2 = and_parts (same_place v x.0 t) _ x1.1 in
            (x.0, x.1, x1.0, eqb-true _ _ x2.0, pair x.0 t x.1 lt (eqb-true _ _ x2.0) (not-true _ x2.1));
        loop = λ t k lt lk st e leads.
            pair k t lk lt e (false_from_ne_true _ (λ gk.
            both_ways _ (none_at v.size (λ k. same_place v k t && (reach k m && gone k t)) k (stepped t lt st).1 lk)
            (and_from _ _ (eq-eqb _ _ e) (and_from _ _ (whole k m lk lm leads) gk))));
        listener = λ t lt st.
            let p = and_parts (v.step n t) (v.hears t) st in
            let f : is_heard_there v m t ≡ true = not-false _ (sym (fails_heard v reach gone m t p.1) ∙ at_step t lt p.0) in
            let x : (s : ℕ) × (s < v.size) × ((is_heard v m s && (same_place v s t && no_worse (v.rank s) (v.rank t))) ≡ true) =
            any_found v.size (λ s. is_heard v m s && (same_place v s t && no_worse (v.rank s) (v.rank t))) f in
            let x1 = and_parts (is_heard v m x.0) _ x.2 in
            let x2 = and_parts (same_place v x.0 t) _ x1.1 in
            (x.0, x.1, x1.0, eqb-true _ _ x2.0, x2.1);
      }

-- Where a round takes nothing more away, what is left is the greatest closed relation, as long as a test that passes too often
-- leaves what one that passes too seldom does.
pub greatest_between : (v : View) (low high : ℕ → ℕ → Bool) (rounds : ℕ) → IsSound v low → IsWhole v high → TakesNothingMore v high rounds
    → ((m n : ℕ) → left_after v low rounds m n ≡ left_after v high rounds m n)
    → IsGreatest v (left_after v high rounds)
greatest_between v low high rounds sound whole h same = record {
  closed = λ m n e.
      let p = and_parts (is_pair v m n) (not (gone_after v high rounds m n)) e in
      let q : Pair v m n = pair_from v m n p.0 in
      let stays : gone_after v high (suc rounds) m n ≡ false = false_from_ne_true _ (λ g. both_ways _ (not-true _ p.1) (h m n q g)) in
      (q, rules_are_met v high whole (gone_after v high rounds) m n q.left (or_parts _ _ stays).1);
  greatest = λ s c m n e. sym (same m n) ∙ and_from _ _ (pair_to v m n (c m n e).0) (not_from_false _ (closed_stays v low sound s c rounds m n e));
}

pub settled_is_greatest : (v : View) (reach : ℕ → ℕ → Bool) → IsReach v reach → (rounds : ℕ) → TakesNothingMore v reach rounds → IsGreatest v (left_after v reach rounds)
settled_is_greatest v reach exact rounds h =
    greatest_between v reach reach rounds (λ a b la lb. (exact a b la lb).0) (λ a b la lb. (exact a b la lb).1) h (λ m n. refl)

-- A pair that has gone both ways shows that no closed relation is total.
pub open_pair : (v : View) (reach r : ℕ → ℕ → Bool) (k m n : ℕ) → IsSound v reach → IsClosed v r → Pair v m n → gone_after v reach k m n ≡ true → gone_after v reach k n m ≡ true → IsTotal v r → ⊥
open_pair v reach r k m n sound c pair a b total = elim (total m n pair) [
  | inl e ↦ both_ways _ (closed_stays v reach sound r c k m n e) a
  | inr e ↦ both_ways _ (closed_stays v reach sound r c k n m e) b
]
