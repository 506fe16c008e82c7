-- Whom a cut moves is told for each row.
use Rattle.std.proofs.Common.{◌≡◌, length, sym, ap, ◌∙◌}
use Rattle.std.proofs.lemmas.List.{length-map}
use Rattle.net_base.specs.Network.{PlainNet}
use Rattle.net_base.specs.Prefixes.{PlainPrefix}
use Rattle.policy_base.specs.Policies.{PlainPolicy}
use Rattle.config_base.specs.Configs.{PlainConfig}
use Rattle.outcome_base.specs.Outcomes.{Failures}
use Rattle.impact_law.specs.declared.impact.WhatIf.{WhatIf}
use Rattle.impact_law.proofs.OneImpact.{rows_are_of_live_cuts}
use Rattle.whatif_report.specs.Moves.{IsWhatIf}

pub as_many : (net : PlainNet) (policy : PlainPolicy) (config : PlainConfig) (f : Failures) (p : PlainPrefix) (w : WhatIf) → IsWhatIf net policy config f p w → length w.moves ≡ length w.impact.rows
as_many net policy config f p w is =
    ap length is.moves ∙ length-map _ _
    ∙ sym (ap length (rows_are_of_live_cuts net policy f p w.impact is.impact)) ∙ length-map _ _
