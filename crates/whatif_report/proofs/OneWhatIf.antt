-- There is one answer to what cuts change and move.
use Rattle.std.proofs.Common.{◌≡◌, ℕ, List, sym, ◌∙◌, subst}
use Rattle.std.specs.Prelude.{map}
use Rattle.list_law.proofs.Truth.{same_tests}
use Rattle.net_base.specs.Network.{PlainNet, IsNet}
use Rattle.net_base.specs.Prefixes.{PlainPrefix, IsPrefix}
use Rattle.policy_base.specs.Policies.{PlainPolicy, IsPolicyOf}
use Rattle.config_base.specs.Configs.{PlainConfig}
use Rattle.evidence_base.specs.Made.{PlainCaseEvidence}
use Rattle.evidence_law.specs.Passes.{Passes}
use Rattle.outcome_base.specs.Outcomes.{Failures, Outcome}
use Rattle.settled_law.proofs.SettledLaw.{settled_outcomes_are_one}
use Rattle.impact_law.specs.Cuts.{live_cuts, with_cut}
use Rattle.impact_law.specs.declared.impact.Cut.{Cut}
use Rattle.impact_law.specs.declared.impact.WhatIf.{WhatIf}
use Rattle.impact_law.proofs.OneImpact.{impacts_are_one}
use Rattle.whatif_report.specs.Moves.{IsSettledOutcome, IsWhatIf, KeepsSet, WhatIfsAreOne, moves_by}

module _ (net : PlainNet) (policy : PlainPolicy) (config : PlainConfig) (cs : List PlainCaseEvidence) (rules : IsNet net)
    (kept : IsPolicyOf net policy) (passes : Passes net policy config cs) (p : PlainPrefix) (prefix : IsPrefix p) where
  -- a network settles in one way
  pub settled_one : (f : Failures) (a b : Outcome) → IsSettledOutcome net policy config f p a → IsSettledOutcome net policy config f p b → a ≡ b
  settled_one f a b x y = settled_outcomes_are_one net policy config cs rules kept passes p f prefix a b x.size y.size x.stable y.stable

  module _ (f : Failures) (a b : WhatIf) (x : IsWhatIf net policy config f p a) (y : IsWhatIf net policy config f p b) where
    before_same : x.before ≡ y.before
    before_same = settled_one f x.before y.before x.settled y.settled

    after_same : (cut : Cut) → x.after cut ≡ y.after cut
    after_same cut = settled_one (with_cut cut f) (x.after cut) (y.after cut) (x.resettled cut) (y.resettled cut)

    there : (cut : Cut) (r : ℕ) → KeepsSet net policy config f (with_cut cut f) p x.before (x.after cut) r → KeepsSet net policy config f (with_cut cut f) p y.before (y.after cut) r
    there cut r keeps =
        subst (λ (o : Outcome). KeepsSet net policy config f (with_cut cut f) p y.before o r) (after_same cut)
        (subst (λ (o : Outcome). KeepsSet net policy config f (with_cut cut f) p o (x.after cut) r) before_same keeps)

    back : (cut : Cut) (r : ℕ) → KeepsSet net policy config f (with_cut cut f) p y.before (y.after cut) r → KeepsSet net policy config f (with_cut cut f) p x.before (x.after cut) r
    back cut r keeps =
        subst (λ (o : Outcome). KeepsSet net policy config f (with_cut cut f) p x.before o r) (sym (after_same cut))
        (subst (λ (o : Outcome). KeepsSet net policy config f (with_cut cut f) p o (y.after cut) r) (sym before_same) keeps)

    kept_same : (cut : Cut) (r : ℕ) → x.kept cut r ≡ y.kept cut r
    kept_same cut r =
        same_tests (x.kept cut r) (y.kept cut r) (λ t. (y.each cut r).1 (there cut r ((x.each cut r).0 t))) (λ t. (x.each cut r).1 (back cut r ((y.each cut r).0 t)))

    pub what_if_same : a ≡ b
    what_if_same =
        let impact = impacts_are_one net policy f p a.impact b.impact x.impact y.impact in
        let moves : a.moves ≡ b.moves =
        x.moves
        ∙ (λ i. map (λ (cut : Cut). moves_by net cut (before_same i) (after_same cut i) (λ r. kept_same cut r i)) (live_cuts net f))
        ∙ sym y.moves in
        λ i. record { impact = impact i; moves = moves i }

pub what_ifs_are_one : WhatIfsAreOne
what_ifs_are_one net policy config cs rules kept passes f p prefix a b x y = what_if_same net policy config cs rules kept passes p prefix f a b x y
