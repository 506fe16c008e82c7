-- Chains of removed pairs are lines that refute.
use Rattle.std.proofs.Common.{◌≡◌, ℕ, zero, suc, ◌<◌, ◌≤◌, Bool, true, false, not, ◌&&◌, ◌||◌, List, [], ◌∷◌, ◌++◌, Option, Some, None, inl, inr, arith, refl, sym, ap, ◌∙◌, subst}
use Rattle.std.specs.Prelude.{is_some, option_map}
use Rattle.std.proofs.lemmas.Bool.{and_parts, and_from, and_cases, or_left, both_ways, cases_Bool, cases_lt, cond-true, cond-false, eqb-true, eq-eqb, leb-false, not-true}
use Rattle.std.proofs.lemmas.Bool.{not-false, not_from_false, not_from_true}
use Rattle.list_law.proofs.Options.{option_map_parts}
use Rattle.net_base.specs.declared.loc.LocSet.{LocSet}
use Rattle.net_base.specs.Sets.{holds}
use Rattle.graph_base.specs.declared.refutation.Removed.{Removed}
use Rattle.graph_base.specs.declared.refutation.Why.{Why}
use Rattle.graph_base.specs.declared.refutation.Why.TheVariants.{RankWorse, NoStep, StepWorse, LoopWorse, ListenerWorse}
use Rattle.graph_base.specs.Graphs.{PlainGraph, IsGraph}
use Rattle.graph_base.specs.Refuting.{IsJustified, IsLine, IsWorse, Refutes, Says, WasRemoved}
use Rattle.graph_base.specs.Runs.{has_step, place_of, rank_at}
use Rattle.relation_law.specs.Numbers.{any_below}
use Rattle.relation_law.specs.Relations.{Pair, is_heard, no_worse, steps_on}
use Rattle.relation_law.specs.Rounds.{IsReach, gone_after, has_answer, is_heard_there, same_place}
use Rattle.relation_law.specs.Views.{View, view_of}
use Rattle.graph_base.proofs.StartsAndSteps.{step_nodes}
use Rattle.relation_law.proofs.Tests.{any_at, any_found, none_at}
use Rattle.relation_law.specs.Choosing.{Goes, IsChain, IsNeeded, IsRefutation, Rests}
use Rattle.graph_base.proofs.Least.{least_passes}
use Rattle.graph_base.specs.Least.{least_below, or_else}
use Rattle.relation_law.specs.Reasons.{IsReason, none, reason_at}

-- ---- there is a least number that passes where one passes

pub least_is_some : (n : ℕ) (p : ℕ → Bool) → is_some (least_below n p) ≡ any_below n p
least_is_some zero p = refl
least_is_some (suc n) p = by (least_below n p) (least_is_some n p) (p n)
  where
    by : (o : Option ℕ) → is_some o ≡ any_below n p → (b : Bool) → is_some (or_else o b n) ≡ (b || any_below n p)
    by (Some j) e true = refl
    by (Some j) e false = e
    by None e true = refl
    by None e false = e

-- ---- ranks

worse_from : (one other : Option ℕ) → no_worse one other ≡ false → IsWorse one other
worse_from one None h = absurd (cc)
worse_from None (Some j) h = (j, refl, λ k e. absurd (cc))
worse_from (Some i) (Some j) h = (j, refl, λ k e. (let same : i ≡ k = cc in let less = leb-false i j h in omega (arith, same, less)))

module _ (g : PlainGraph) (claimed : LocSet) (ok : IsGraph g) (reach : ℕ → ℕ → Bool) (exact : IsReach (view_of g claimed) reach) where
  abbrev V : View
  V = view_of g claimed

  -- what each reason says of a pair, where gone are the pairs that it rests on
  abbrev pub Tells : (ℕ → ℕ → Bool) → ℕ → ℕ → ℕ → Why → Type 0
  Tells gone m n t RankWorse = ⊥
  Tells gone m n t (NoStep z) = (steps_on V n t ≡ true) × (place_of g t ≡ z) × (has_answer V none m t ≡ false)
  Tells gone m n t (StepWorse z) = (steps_on V n t ≡ true) × (place_of g t ≡ z) × (has_answer V none m t ≡ true) × (has_answer V gone m t ≡ false)
  Tells gone m n t (LoopWorse z k) = (steps_on V n t ≡ true) × (place_of g t ≡ z) × (k < V.size) × ((same_place V k t && (reach k m && gone k t)) ≡ true)
  Tells gone m n t (ListenerWorse z) = (is_heard V n t ≡ true) × (place_of g t ≡ z) × (is_heard_there V m t ≡ false)

  pub reason_tells : (gone : ℕ → ℕ → Bool) (m n t : ℕ) (why : Why) → V.step n t ≡ true → reason_at V reach gone m t ≡ Some why → Tells gone m n t why
  reason_tells gone m n t why st h = elim (cases_Bool (V.hears t)) [
    | inl l ↦ elim (cases_Bool (is_heard_there V m t)) [
      | inl heard ↦ (let none_is : None ≡ Some why = sym (cond-true (V.hears t) _ _ l ∙ cond-true (is_heard_there V m t) _ _ heard) ∙ h in absurd (cc))
      | inr deaf ↦ (
          let is : Some (ListenerWorse (place_of g t)) ≡ Some why = sym (cond-true (V.hears t) _ _ l ∙ cond-false (is_heard_there V m t) _ _ deaf) ∙ h in
          let same : ListenerWorse (place_of g t) ≡ why = cc in
          subst (Tells gone m n t) same (and_from (V.step n t) (V.hears t) st l, refl, deaf))
    ]
    | inr l ↦ (
        let on : steps_on V n t ≡ true = and_from (V.step n t) (not (V.hears t)) st (not_from_false _ l) in
        elim (cases_Bool (has_answer V none m t)) [
          | inr f ↦ (
              let is : Some (NoStep (place_of g t)) ≡ Some why = sym (cond-false (V.hears t) _ _ l ∙ cond-true (not (has_answer V none m t)) _ _ (not_from_false _ f)) ∙ h in
              let same : NoStep (place_of g t) ≡ why = cc in
              subst (Tells gone m n t) same (on, refl, f))
          | inl a ↦ elim (cases_Bool (has_answer V gone m t)) [
            | inr f ↦ (
                let is : Some (StepWorse (place_of g t)) ≡ Some why =
                sym (cond-false (V.hears t) _ _ l ∙ cond-false (not (has_answer V none m t)) _ _ (not_from_true _ a) ∙ cond-true (not (has_answer V gone m t)) _ _ (not_from_false _ f)) ∙ h in
                let same : StepWorse (place_of g t) ≡ why = cc in
                subst (Tells gone m n t) same (on, refl, a, f))
            | inl b ↦ (
                let is : option_map (LoopWorse (place_of g t)) (least_below V.size (λ k. same_place V k t && (reach k m && gone k t))) ≡ Some why =
                sym (cond-false (V.hears t) _ _ l ∙ cond-false (not (has_answer V none m t)) _ _ (not_from_true _ a) ∙ cond-false (not (has_answer V gone m t)) _ _ (not_from_true _ b)) ∙ h in
                let k = option_map_parts (LoopWorse (place_of g t)) (least_below V.size (λ k. same_place V k t && (reach k m && gone k t))) why is in
                let low = least_passes V.size (λ k. same_place V k t && (reach k m && gone k t)) k.0 k.1 in
                subst (Tells gone m n t) k.2 (on, refl, low.0, low.1))
          ]
        ])
  ]

  -- ---- chains

  pub chain-more : (m n a b c d : ℕ) (via : List (ℕ × ℕ)) (round : ℕ) (why : Why) → IsChain V reach m n via a b → Goes V reach a b round why
      → Rests V a b why c d → IsChain V reach m n (via ++ (c, d) ∷ []) c d
  chain-more m n a b c d [] round why (e, f) goes rests = (
    round,
    why,
    subst (λ x. Goes V reach x n round why) (sym e) (subst (λ y. Goes V reach a y round why) (sym f) goes),
    subst (λ x. Rests V x n why c d) (sym e) (subst (λ y. Rests V a y why c d) (sym f) rests),
    (refl, refl),
  )
  chain-more m n a b c d (x ∷ via) round why (r, w, go, re, rest) goes rests = (r, w, go, re, chain-more x.0 x.1 a b c d via round why rest goes rests)

  needed-more : (first second a b c d : ℕ) (round : ℕ) (why : Why) → IsNeeded V reach first second a b → Goes V reach a b round why → Rests V a b why c d → IsNeeded V reach first second c d
  needed-more first second a b c d round why (via, inl ch) goes rests = (via ++ (c, d) ∷ [], inl (chain-more first second a b c d via round why ch goes rests))
  needed-more first second a b c d round why (via, inr ch) goes rests = (via ++ (c, d) ∷ [], inr (chain-more second first a b c d via round why ch goes rests))

  -- what has gone before is gone later
  pub gone-later : (r s m n : ℕ) → r ≤ s → gone_after V reach r m n ≡ true → gone_after V reach s m n ≡ true
  gone-later r zero m n le h = (let same : r ≡ 0 = omega (arith, le) in sym (ap (λ k. gone_after V reach k m n) same) ∙ h)
  gone-later r (suc s) m n le h = elim (cases_lt r (suc s)) [
    | inl t ↦ or_left (gone_after V reach s m n) _ (gone-later r s m n (omega (arith, t)) h)
    | inr t ↦ (let same : r ≡ suc s = omega (arith, le, t) in sym (ap (λ k. gone_after V reach k m n) same) ∙ h)
  ]

  -- a pair that has gone goes in no later round
  pub goes-by : (m n round r : ℕ) (why : Why) → Goes V reach m n round why → gone_after V reach r m n ≡ true → round ≤ r
  goes-by m n round r why goes h = elim (cases_lt goes.before r) [
    | inl t ↦ omega (arith, goes.next, t)
    | inr t ↦ (
        absurd (both_ways (gone_after V reach goes.before m n) goes.stayed (gone-later r goes.before m n t h)))
  ]

  -- lines of pairs that go, with a line for each pair on which one rests
  module _ (lines : List Removed) (falls : (l : Removed) → IsLine lines l → Goes V reach l.better l.worse l.round l.why)
      (under : (l : Removed) (is : IsLine lines l) (a b : ℕ) → Rests V l.better l.worse l.why a b → Pair V a b
      → gone_after V reach (falls l is).before a b ≡ true → (k : Removed) × IsLine lines k × (k.better ≡ a) × (k.worse ≡ b)) where
    -- it is of an earlier round
    earlier : (l : Removed) (is : IsLine lines l) (a b : ℕ) → Rests V l.better l.worse l.why a b → Pair V a b → gone_after V reach (falls l is).before a b ≡ true → WasRemoved lines l.round a b
    earlier l is a b rests pair gone =
        let k = under l is a b rests pair gone in
        let by = falls k.0 k.1 in
        let less = goes-by k.0.better k.0.worse k.0.round (falls l is).before k.0.why by
        (ap (λ x. gone_after V reach (falls l is).before x k.0.worse) k.2 ∙ ap (gone_after V reach (falls l is).before a) k.3 ∙ gone) in
        (k.0, k.1, k.2, k.3, omega (arith, (falls l is).next, less))

    -- the reason of a line holds
    reason_holds : (l : Removed) → IsLine lines l → Says g (holds claimed) lines l.round l.better l.worse l.why
    reason_holds l is = by goes.reason
      where
        goes : Goes V reach l.better l.worse l.round l.why
        goes = falls l is

        gone : ℕ → ℕ → Bool
        gone = gone_after V reach goes.before

        told : (t : ℕ) (why : Why) → l.why ≡ why → V.step l.worse t ≡ true → Tells gone l.better l.worse t why → Says g (holds claimed) lines l.round l.better l.worse why
        told t RankWorse e st h = absurd h
        told t (NoStep z) e st h = (
          (t, (h.0, h.1)),
          λ s step.
              both_ways (has_answer V none l.better t) h.2
              (any_at V.size (λ s. steps_on V l.better s && (same_place V s t && not (none s t))) s (step_nodes g l.better s ok (and_parts (has_step g l.better s) _ step.0).0).1
              (and_from (steps_on V l.better s) _ step.0 (and_from (same_place V s t) true (eq-eqb (place_of g s) (place_of g t) (step.1 ∙ sym h.1)) refl))),
        )
        told t (StepWorse z) e st h =
            let x = any_found V.size (λ s. steps_on V l.better s && (same_place V s t && not (none s t))) h.2 in
            let x1 = and_parts (steps_on V l.better x.0) _ x.2 in
            let at = eqb-true (place_of g x.0) (place_of g t) (and_parts (same_place V x.0 t) _ x1.1).0 in
            let off = none_at V.size (λ s. steps_on V l.better s && (same_place V s t && not (gone s t))) x.0 h.3 x.1 in
            let went : gone x.0 t ≡ true = elim (and_cases (steps_on V l.better x.0) _ off) [
              | inl f ↦ absurd (both_ways _ f x1.0)
              | inr f ↦ elim (and_cases (same_place V x.0 t) _ f) [ inl q ↦ absurd (both_ways _ q (eq-eqb _ _ at)) | inr q ↦ not-false _ q ]
            ] in
            let rests : Rests V l.better l.worse l.why x.0 t = subst (λ w. Rests V l.better l.worse w x.0 t) (sym e) (x1.0, at ∙ h.1, h.0, h.1) in
            (x.0, t, (x1.0, at ∙ h.1), (h.0, h.1), earlier l is x.0 t rests (record { left = x.1; right = (step_nodes g l.worse t ok st).1; place = at }) went)
        told t (LoopWorse z k) e st h =
            let parts = and_parts (same_place V k t) _ h.3 in
            let rest = and_parts (reach k l.better) _ parts.1 in
            let at = eqb-true (place_of g k) (place_of g t) parts.0 in
            let rests : Rests V l.better l.worse l.why k t = subst (λ w. Rests V l.better l.worse w k t) (sym e) (refl, h.0, h.1) in
            (t, (h.0, h.1), h.2, at ∙ h.1, (exact k l.better h.2 goes.pair.left).0 rest.0, earlier l is k t rests (record { left = h.2; right = (step_nodes g l.worse t ok st).1; place = at }) rest.1)
        told t (ListenerWorse p) e st h = (
          t,
          (h.0, h.1),
          λ s heard.
              let off = none_at V.size (λ s. is_heard V l.better s && (same_place V s t && no_worse (rank_at g s) (rank_at g t))) s h.2
              (step_nodes g l.better s ok (and_parts (has_step g l.better s) _ heard.0).0).1 in
              worse_from (rank_at g s) (rank_at g t) (elim (and_cases (is_heard V l.better s) _ off) [
                | inl f ↦ absurd (both_ways _ f heard.0)
                | inr f ↦ elim (and_cases (same_place V s t) _ f) [ inl q ↦ absurd (both_ways _ q (eq-eqb _ _ (heard.1 ∙ sym h.1))) | inr q ↦ q ]
              ]),
        )

        by : IsReason V reach gone l.better l.worse l.why → Says g (holds claimed) lines l.round l.better l.worse l.why
        by (inl (worse, is)) =
            let parts = and_parts (holds claimed (place_of g l.worse)) _ worse in
            subst (Says g (holds claimed) lines l.round l.better l.worse) (sym is) (parts.0, worse_from (rank_at g l.better) (rank_at g l.worse) (not-true _ parts.1))
        by (inr (better, at)) = told at.0 l.why refl at.1.step (reason_tells gone l.better l.worse at.0 l.why at.1.step at.2)

    pub justified : (l : Removed) → IsLine lines l → IsJustified g (holds claimed) lines l
    justified l is = (
        let goes = falls l is in
        record { better = goes.pair.left; worse = goes.pair.right; place = goes.pair.place; reason = reason_holds l is })

  -- the needed lines refute the pair
  pub refutes_by_chains : (first second : ℕ) (lines : List Removed) → IsRefutation V reach first second lines → Refutes g (holds claimed) first second lines
  refutes_by_chains first second lines r = record {
    each = justified lines (λ l is. (r.each l is).1) (λ l is a b rests pair gone. r.all a b (needed-more first second l.better l.worse a b l.round l.why (r.each l is).0 (r.each l is).1 rests));
    one = r.all first second ([], inl (refl, refl));
    other = r.all second first ([], inr (refl, refl));
  }
