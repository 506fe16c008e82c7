-- Numbers of one graph keep pairs of a graph that is alike from going.
use Rattle.std.proofs.Common.{◌≡◌, ℕ, zero, suc, ◌<◌, ◌≤◌, Bool, true, false, not, nat_le, inl, inr, arith, refl, sym, ap, ◌∙◌}
use Rattle.std.proofs.lemmas.Bool.{cases_lt, and_parts, and_from, not-true, not_from_false, or_parts, or_from, leb-true}
use Rattle.relation_law.specs.Numbers.{AreNumbers}
use Rattle.relation_law.specs.Relations.{Meets, Pair, IsTotal, no_worse, steps_on}
use Rattle.relation_law.specs.Rounds.{IsReach, gone_after, is_pair, left_after, fails}
use Rattle.relation_law.specs.Views.{View}
use Rattle.relation_law.proofs.Ranks.{no_worse_trans}
use Rattle.relation_law.proofs.Rounds.{Answer, Hearer, pair_from, pair_to, no_rule_fails, rules_are_met}
use Rattle.quotient_law.specs.Alike.{IsAlike}

module _ (v : View) (reach : ℕ → ℕ → Bool) (exact : IsReach v reach) where
  left_pair : (k a b : ℕ) → left_after v reach k a b ≡ true → Pair v a b
  left_pair k a b h = pair_from v a b (and_parts (is_pair v a b) (not (gone_after v reach k a b)) h).0

  -- what is left after one more round was left before, and meets the rules against that
  left_meets : (k a b : ℕ) → left_after v reach (suc k) a b ≡ true → Meets v (left_after v reach k) a b
  left_meets k a b h =
      let p = and_parts (is_pair v a b) (not (gone_after v reach (suc k) a b)) h in
      let stays = or_parts (gone_after v reach k a b) (fails v reach (gone_after v reach k) a b) (not-true _ p.1) in
      rules_are_met v reach (λ x y lx ly. (exact x y lx ly).1) (gone_after v reach k) a b (pair_from v a b p.0).left stays.1

  left_before : (k a b : ℕ) → left_after v reach (suc k) a b ≡ true → left_after v reach k a b ≡ true
  left_before k a b h =
      let p = and_parts (is_pair v a b) (not (gone_after v reach (suc k) a b)) h in
      let stays = or_parts (gone_after v reach k a b) (fails v reach (gone_after v reach k) a b) (not-true _ p.1) in
      and_from _ _ p.0 (not_from_false _ stays.0)

  left_next : (k a b : ℕ) → left_after v reach k a b ≡ true → Meets v (left_after v reach k) a b → left_after v reach (suc k) a b ≡ true
  left_next k a b h meets =
      let p = and_parts (is_pair v a b) (not (gone_after v reach k a b)) h in
      let stays : fails v reach (gone_after v reach k) a b ≡ false =
      no_rule_fails v reach (λ x y lx ly. (exact x y lx ly).0) (left_after v reach k) (gone_after v reach k) a b (pair_from v a b p.0).left meets
      (λ x y e. not-true _ (and_parts (is_pair v x y) (not (gone_after v reach k x y)) e).1) in
      and_from _ _ p.0 (not_from_false _ (or_from _ _ (not-true _ p.1) stays))

  -- what is left after so many rounds is transitive
  pub left_trans : (k a b c : ℕ) → left_after v reach k a b ≡ true → left_after v reach k b c ≡ true → left_after v reach k a c ≡ true
  left_trans zero a b c f g =
      let p = left_pair zero a b f in
      let q = left_pair zero b c g in
      and_from _ _ (pair_to v a c (record { left = p.left; right = q.right; place = p.place ∙ q.place })) refl
  left_trans (suc k) a b c f g =
      let p = left_pair (suc k) a b f in
      let q = left_pair (suc k) b c g in
      let ab : Meets v (left_after v reach k) a b = left_meets k a b f in
      let bc : Meets v (left_after v reach k) b c = left_meets k b c g in
      left_next k a c (left_trans k a b c (left_before k a b f) (left_before k b c g)) (record {
        rank = λ cl. no_worse_trans (v.rank a) (v.rank b) (v.rank c) (ab.rank (ap v.claimed q.place ∙ cl)) (bc.rank cl);
        step = λ t lt st.
            let x : Answer v (left_after v reach k) b t = bc.step t lt st in
            let y : Answer v (left_after v reach k) a x.0 = ab.step x.0 x.1 x.2 in
            (y.0, y.1, y.2, y.3 ∙ x.3, left_trans k y.0 x.0 t y.4 x.4);
        loop = λ t e lt le st same leads.
            let x : Answer v (left_after v reach k) b t = bc.step t lt st in
            left_trans k e x.0 t (ab.loop x.0 e x.1 le x.2 (same ∙ sym x.3) leads) x.4;
        listener = λ t lt st.
            let x : Hearer v b t = bc.listener t lt st in
            let y : Hearer v a x.0 = ab.listener x.0 x.1 x.2 in
            (y.0, y.1, y.2, y.3 ∙ x.3, no_worse_trans (v.rank y.0) (v.rank x.0) (v.rank t) y.4 x.4);
      })

module _ (v w : View) (H : ℕ → ℕ → Type 0) (alike : IsAlike v w H) (reach : ℕ → ℕ → Bool) (exact : IsReach w reach) (number : ℕ → ℕ) (are : AreNumbers v number) where
  steps_there : (a b m n : ℕ) → H b n → v.step a b ≡ true → w.step m n ≡ true → steps_on v a b ≡ true → steps_on w m n ≡ true
  steps_there a b m n h s t on = and_from _ _ t (ap not (sym (alike.hears b n h)) ∙ (and_parts (v.step a b) (not (v.hears b)) on).1)

  steps_here : (a b m n : ℕ) → H b n → v.step a b ≡ true → steps_on w m n ≡ true → steps_on v a b ≡ true
  steps_here a b m n h s on = and_from _ _ s (ap not (alike.hears b n h) ∙ (and_parts (w.step m n) (not (w.hears n)) on).1)

  pair_there : (a b m n : ℕ) → H a m → H b n → v.place a ≡ v.place b → Pair w m n
  pair_there a b m n h i e = record { left = alike.right a m h; right = alike.right b n i; place = sym (alike.place a m h) ∙ e ∙ alike.place b n i }

  pair_here : (a b m n : ℕ) → H a m → H b n → w.place m ≡ w.place n → Pair v a b
  pair_here a b m n h i e = record { left = alike.left a m h; right = alike.left b n i; place = alike.place a m h ∙ e ∙ sym (alike.place b n i) }

  leb_le : {x y : ℕ} → nat_le x y ≡ true → x ≤ y
  leb_le {x} {y} h = leb-true x y h

  abbrev Stays : ℕ → Type 0
  Stays k = (a b m n : ℕ) → H a m → H b n → v.place a ≡ v.place b → number b ≤ number a → left_after w reach k m n ≡ true

  -- an answer of the one is tied to an answer of the other
  answer : (k a b m n : ℕ) → Stays k → H a m → H b n → v.place a ≡ v.place b → number b ≤ number a → (t : ℕ) → t < w.size → steps_on w n t ≡ true → Answer w (left_after w reach k) m t
  answer k a b m n stay h i e le t lt st =
      let ab : Meets v (λ x y. nat_le (number y) (number x)) a b = are a b (record { left = alike.left a m h; right = alike.left b n i; place = e }) le in
      let f = alike.back b n t i (and_parts (w.step n t) (not (w.hears t)) st).0 in
      let x : Answer v (λ x y. nat_le (number y) (number x)) a f.0 = ab.step f.0 (alike.left f.0 t f.2) (steps_here b f.0 n t f.2 f.1 st) in
      let s = alike.forth a x.0 m h (and_parts (v.step a x.0) (not (v.hears x.0)) x.2).0 in (
        s.0,
        alike.right x.0 s.0 s.2,
        steps_there a x.0 m s.0 s.2 (and_parts (v.step a x.0) (not (v.hears x.0)) x.2).0 s.1 x.2,
        sym (alike.place x.0 s.0 s.2) ∙ x.3 ∙ alike.place f.0 t f.2,
        stay x.0 f.0 s.0 t s.2 f.2 x.3 (leb_le x.4),
      )

  -- a node that is tied to one of no lesser a number is never below it
  pub stays : (k a b m n : ℕ) → H a m → H b n → v.place a ≡ v.place b → number b ≤ number a → left_after w reach k m n ≡ true
  stays zero a b m n h i e le = and_from _ _ (pair_to w m n (pair_there a b m n h i e)) refl
  stays (suc k) a b m n h i e le =
      let pv : Pair v a b = record { left = alike.left a m h; right = alike.left b n i; place = e } in
      let ab : Meets v (λ x y. nat_le (number y) (number x)) a b = are a b pv le in
      left_next w reach exact k m n (stays k a b m n h i e le) (record {
        rank = λ cl.
            ap (λ o. no_worse o (w.rank n)) (sym (alike.rank a m h)) ∙ ap (no_worse (v.rank a)) (sym (alike.rank b n i))
            ∙ ab.rank (ap v.claimed (alike.place b n i) ∙ alike.claimed (w.place n) cl);
        step = λ t lt st. answer k a b m n (stays k) h i e le t lt st;
        loop = λ t e2 lt le2 st same leads.
            let x : Answer w (left_after w reach k) m t = answer k a b m n (stays k) h i e le t lt st in
            let first = alike.each e2 le2 in
            let to = alike.leads first.0 e2 m first.1 leads in
            let on = alike.back to.0 m x.0 to.2 (and_parts (w.step m x.0) (not (w.hears x.0)) x.2).0 in
            let self : Pair v to.0 to.0 = record { left = alike.left to.0 m to.2; right = alike.left to.0 m to.2; place = refl } in
            let own : Meets v (λ x y. nat_le (number y) (number x)) to.0 to.0 = are to.0 to.0 self (omega arith) in
            let there = pair_here first.0 on.0 e2 x.0 first.1 on.2 (same ∙ sym x.3) in
            let no_less = leb_le (own.loop on.0 first.0 there.right there.left (steps_here to.0 on.0 m x.0 on.2 on.1 x.2) there.place to.1) in
            left_trans w reach exact k e2 x.0 t (stays k first.0 on.0 e2 x.0 first.1 on.2 there.place no_less) x.4;
        listener = λ t lt st.
            let p = and_parts (w.step n t) (w.hears t) st in
            let f = alike.back b n t i p.0 in
            let x : Hearer v a f.0 = ab.listener f.0 (alike.left f.0 t f.2) (and_from _ _ f.1 (alike.hears f.0 t f.2 ∙ p.1)) in
            let q = and_parts (v.step a x.0) (v.hears x.0) x.2 in
            let s = alike.forth a x.0 m h q.0 in (
              s.0,
              alike.right x.0 s.0 s.2,
              and_from _ _ s.1 (sym (alike.hears x.0 s.0 s.2) ∙ q.1),
              sym (alike.place x.0 s.0 s.2) ∙ x.3 ∙ alike.place f.0 t f.2,
              ap (λ o. no_worse o (w.rank t)) (sym (alike.rank x.0 s.0 s.2)) ∙ ap (no_worse (v.rank x.0)) (sym (alike.rank f.0 t f.2)) ∙ x.4,
            );
      })

  pub total_there : (rounds : ℕ) → IsTotal w (left_after w reach rounds)
  total_there rounds m n p =
      let a = alike.each m p.left in
      let b = alike.each n p.right in
      let pv = pair_here a.0 b.0 m n a.1 b.1 p.place in
      elim (cases_lt (number a.0) (number b.0)) [
        | inl lt ↦ inr (stays rounds b.0 a.0 n m b.1 a.1 (sym pv.place) (omega (arith, lt)))
        | inr le ↦ inl (stays rounds a.0 b.0 m n a.1 b.1 pv.place (omega (arith, le)))
      ]
