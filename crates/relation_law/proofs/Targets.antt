-- What fails at a step rests on what has gone below its target alone.
use Rattle.std.proofs.Common.{◌≡◌, ℕ, zero, suc, ◌<◌, Bool, true, false, not, ◌&&◌, ◌||◌, inl, inr, arith, refl, sym, ap, ◌∙◌}
use Rattle.std.proofs.lemmas.Bool.{or_parts, cases_Bool, and_left}
use Rattle.relation_law.specs.Numbers.{any_below}
use Rattle.relation_law.specs.Relations.{no_worse, steps_on}
use Rattle.relation_law.specs.Rounds.{AreTouched, fails, fails_at, gone_after, goes_by, has_answer, is_looped, same_place}
use Rattle.relation_law.specs.Views.{View}
use Rattle.relation_law.proofs.Rounds.{fails_heard, fails_stepped}
use Rattle.relation_law.proofs.Tests.{none_at}

pub any_alike : (n : ℕ) (p q : ℕ → Bool) → ((k : ℕ) → k < n → p k ≡ q k) → any_below n p ≡ any_below n q
any_alike zero p q h = refl
any_alike (suc n) p q h = ap (λ z. z || any_below n p) (h n (omega arith)) ∙ ap (λ z. q n || z) (any_alike n p q (λ k lt. h k (omega arith)))

module _ (v : View) (reach old new : ℕ → ℕ → Bool) (t : ℕ) (same : (a : ℕ) → a < v.size → same_place v a t ≡ true → new a t ≡ old a t) where
  at_place : (f : Bool → Bool) (a : ℕ) → a < v.size → (same_place v a t && f (new a t)) ≡ (same_place v a t && f (old a t))
  at_place f a la = elim (cases_Bool (same_place v a t)) [
    | inl e ↦ ap (λ z. same_place v a t && f z) (same a la e)
    | inr e ↦ and_left _ _ e ∙ sym (and_left _ _ e)
  ]

  -- so it fails alike for what has gone alike below it
  pub fails_alike : (m : ℕ) → fails_at v reach new m t ≡ fails_at v reach old m t
  fails_alike m =
      let answers : has_answer v new m t ≡ has_answer v old m t = any_alike v.size (λ s. steps_on v m s && (same_place v s t && not (new s t)))
      (λ s. steps_on v m s && (same_place v s t && not (old s t))) (λ a la. ap (λ z. steps_on v m a && z) (at_place not a la)) in
      let loops : is_looped v reach new m t ≡ is_looped v reach old m t = any_alike v.size (λ k. same_place v k t && (reach k m && new k t))
      (λ k. same_place v k t && (reach k m && old k t)) (λ a la. at_place (λ z. reach a m && z) a la) in
      elim (cases_Bool (v.hears t)) [
        | inl h ↦ fails_heard v reach new m t h ∙ sym (fails_heard v reach old m t h)
        | inr h ↦ fails_stepped v reach new m t h ∙ ap (λ z. not z || is_looped v reach new m t) answers ∙ ap (λ z. not (has_answer v old m t) || z) loops ∙ sym (fails_stepped v reach old m t h)
      ]

-- After the first round a pair that is left goes just where a rule fails at a step to a target that is touched.
pub by_targets : (v : View) (reach : ℕ → ℕ → Bool) (rounds : ℕ) (touched : ℕ → Bool) → AreTouched v reach rounds touched → (m n : ℕ) → gone_after v reach (suc rounds) m n ≡ false →
    fails v reach (gone_after v reach (suc rounds)) m n ≡ goes_by v reach (gone_after v reach (suc rounds)) touched m n
by_targets v reach rounds touched are m n left =
    let old : ℕ → ℕ → Bool = gone_after v reach rounds in
    let new : ℕ → ℕ → Bool = gone_after v reach (suc rounds) in
    let before : (gone_after v reach rounds m n ≡ false) × (fails v reach (gone_after v reach rounds) m n ≡ false) = or_parts _ _ left in
    let quiet = or_parts (v.claimed (v.place n) && not (no_worse (v.rank m) (v.rank n))) (any_below v.size (λ t. v.step n t && fails_at v reach (gone_after v reach rounds) m t)) before.1 in
    ap (λ z. z || any_below v.size (λ t. v.step n t && fails_at v reach (gone_after v reach (suc rounds)) m t)) quiet.0
    ∙ any_alike v.size (λ t. v.step n t && fails_at v reach (gone_after v reach (suc rounds)) m t) (λ t. touched t && (v.step n t && fails_at v reach (gone_after v reach (suc rounds)) m t))
    (λ t lt. elim (cases_Bool (touched t)) [
      | inl e ↦ sym (ap (λ z. z && (v.step n t && fails_at v reach (gone_after v reach (suc rounds)) m t)) e)
      | inr e ↦ ap (λ z. v.step n t && z) (fails_alike v reach old new t (λ a la same. are t a lt la e same) m)
          ∙ none_at v.size (λ t. v.step n t && fails_at v reach (gone_after v reach rounds) m t) t quiet.1 lt
          ∙ sym (and_left _ _ e)
    ])

-- what fails at a step asks what can be reached only from nodes that have gone below its target
pub fails_by_either : (v : View) (one other gone : ℕ → ℕ → Bool) (m t : ℕ)
    → ((k : ℕ) → k < v.size → same_place v k t ≡ true → (one k m && gone k t) ≡ (other k m && gone k t))
    → fails_at v one gone m t ≡ fails_at v other gone m t
fails_by_either v one other gone m t same = elim (cases_Bool (v.hears t)) [
  | inl h ↦ fails_heard v one gone m t h ∙ sym (fails_heard v other gone m t h)
  | inr h ↦ fails_stepped v one gone m t h
      ∙ ap (λ z. not (has_answer v gone m t) || z)
      (any_alike v.size (λ k. same_place v k t && (one k m && gone k t)) (λ k. same_place v k t && (other k m && gone k t)) (λ k lk. elim (cases_Bool (same_place v k t)) [
        | inl e ↦ ap (λ z. same_place v k t && z) (same k lk e)
        | inr e ↦ and_left _ _ e ∙ sym (and_left _ _ e)
      ]))
      ∙ sym (fails_stepped v other gone m t h)
]
