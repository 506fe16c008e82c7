-- A reason rests on at most one pair, and that one went before.
use Rattle.std.proofs.Common.{◌≡◌, ℕ, ◌<◌, Bool, true, not, ◌&&◌, inl, inr, sym, ◌∙◌, subst}
use Rattle.std.proofs.lemmas.Bool.{and_cases, and_parts, both_ways, eq-eqb, eqb-true, not-false}
use Rattle.net_base.specs.declared.loc.LocSet.{LocSet}
use Rattle.graph_base.specs.declared.refutation.Why.{Why}
use Rattle.graph_base.specs.declared.refutation.Why.TheVariants.{RankWorse, NoStep, StepWorse, LoopWorse, ListenerWorse}
use Rattle.graph_base.specs.Graphs.{PlainGraph, IsGraph}
use Rattle.graph_base.specs.Refuting.{HasSingleSteps}
use Rattle.graph_base.specs.Runs.{has_step, is_listener, place_of}
use Rattle.relation_law.specs.Relations.{Pair, steps_on}
use Rattle.relation_law.specs.Rounds.{IsReach, gone_after, same_place}
use Rattle.relation_law.specs.Views.{View, view_of}
use Rattle.graph_base.proofs.StartsAndSteps.{step_nodes}
use Rattle.relation_law.proofs.Tests.{none_at}
use Rattle.relation_law.specs.Choosing.{Goes, Rests}
use Rattle.relation_law.specs.Reasons.{IsReason}
use Rattle.relation_law.proofs.Chains.{Tells, reason_tells}

module _ (g : PlainGraph) (claimed : LocSet) (ok : IsGraph g) (single : HasSingleSteps g) where
  abbrev V : View
  V = view_of g claimed

  step_of : (m s : ℕ) → steps_on V m s ≡ true → has_step g m s ≡ true
  step_of m s on = (and_parts (has_step g m s) (not (is_listener g s)) on).0

  pub rests_one : (m n a b c d : ℕ) (why : Why) → Rests V m n why a b → Rests V m n why c d → (a ≡ c) × (b ≡ d)
  rests_one m n a b c d RankWorse x y = absurd x
  rests_one m n a b c d (NoStep z) x y = absurd x
  rests_one m n a b c d (StepWorse z) x y = (single m a c (step_of m a x.0) (step_of m c y.0) (x.1 ∙ sym y.1), single n b d (step_of n b x.2) (step_of n d y.2) (x.3 ∙ sym y.3))
  rests_one m n a b c d (LoopWorse z k) x y = (x.0 ∙ sym y.0, single n b d (step_of n b x.1) (step_of n d y.1) (x.2 ∙ sym y.2))
  rests_one m n a b c d (ListenerWorse z) x y = absurd x

  module _ (reach : ℕ → ℕ → Bool) (exact : IsReach (view_of g claimed) reach) where
    told_earlier : (gone : ℕ → ℕ → Bool) (m n a b t : ℕ) (why : Why) → V.step n t ≡ true → Tells g claimed ok reach exact gone m n t why → Rests V m n why a b → Pair V a b × (gone a b ≡ true)
    told_earlier gone m n a b t RankWorse st h x = absurd h
    told_earlier gone m n a b t (NoStep z) st h x = absurd x
    told_earlier gone m n a b t (StepWorse z) st h x =
        let is : b ≡ t = single n b t (step_of n b x.2) st (x.3 ∙ sym h.1) in
        let la : a < V.size = (step_nodes g m a ok (step_of m a x.0)).1 in
        let lt : t < V.size = (step_nodes g n t ok st).1 in
        let place : place_of g a ≡ place_of g t = x.1 ∙ sym h.1 in
        let off = none_at V.size (λ s. steps_on V m s && (same_place V s t && not (gone s t))) a h.3 la in
        let went : gone a t ≡ true = elim (and_cases (steps_on V m a) _ off) [
          | inl f ↦ absurd (both_ways _ f x.0)
          | inr f ↦ elim (and_cases (same_place V a t) _ f) [ inl q ↦ absurd (both_ways _ q (eq-eqb _ _ place)) | inr q ↦ not-false _ q ]
        ] in
        subst (λ y. Pair V a y × (gone a y ≡ true)) (sym is) (record { left = la; right = lt; place = place }, went)
    told_earlier gone m n a b t (LoopWorse z k) st h x =
        let is : b ≡ t = single n b t (step_of n b x.1) st (x.2 ∙ sym h.1) in
        let lt : t < V.size = (step_nodes g n t ok st).1 in
        let parts = and_parts (same_place V k t) (reach k m && gone k t) h.3 in
        let went = (and_parts (reach k m) (gone k t) parts.1).1 in
        subst (λ y. Pair V a y × (gone a y ≡ true)) (sym is) (subst (λ u. Pair V u t × (gone u t ≡ true)) (sym x.0) (record { left = h.2; right = lt; place = eqb-true _ _ parts.0 }, went))
    told_earlier gone m n a b t (ListenerWorse z) st h x = absurd x

    pub rests_earlier : (m n round a b : ℕ) (why : Why) (goes : Goes V reach m n round why) → Rests V m n why a b → Pair V a b × (gone_after V reach goes.before a b ≡ true)
    rests_earlier m n round a b why goes x = by goes.reason
      where
        gone : ℕ → ℕ → Bool
        gone = gone_after V reach goes.before

        by : IsReason V reach gone m n why → Pair V a b × (gone a b ≡ true)
        by (inl h) = absurd (subst (λ (w : Why). Rests V m n w a b) h.1 x)
        by (inr h) = told_earlier gone m n a b h.1.0 why h.1.1.step (reason_tells g claimed ok reach exact gone m n h.1.0 why h.1.1.step h.1.2) x
