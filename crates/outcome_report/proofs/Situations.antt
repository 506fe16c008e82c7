-- A situation shows what its outcome shows under the configuration.
use Rattle.std.proofs.Common.{List, refl}
use Rattle.std.specs.Prelude.{option_and_then}
use Rattle.net_base.specs.Network.{PlainNet, IsNet}
use Rattle.net_base.specs.Prefixes.{PlainPrefix, IsPrefix}
use Rattle.policy_base.specs.Policies.{PlainPolicy, IsPolicyOf}
use Rattle.config_base.specs.Configs.{PlainConfig}
use Rattle.config_base.specs.Lines.{class_of}
use Rattle.evidence_base.specs.Made.{PlainCaseEvidence, case_at}
use Rattle.evidence_law.specs.Passes.{Passes}
use Rattle.outcome_base.specs.Outcomes.{Failures, Outcome}
use Rattle.outcome_report.specs.Report.{shown_of}
use Rattle.outcome_report.specs.Situations.{shown_by}
use Rattle.outcome_report.proofs.Alike.{ShowAlike}
use Rattle.outcome_claims.proofs.Offering.{offers_are}

module _ (net : PlainNet) (policy : PlainPolicy) (config : PlainConfig) (cs : List PlainCaseEvidence) (rules : IsNet net)
    (kept : IsPolicyOf net policy) (passes : Passes net policy config cs) (p : PlainPrefix) (prefix : IsPrefix p) (outcome : Outcome) (f : Failures) where
  pub shows_alike : ShowAlike net (shown_by net f outcome (option_and_then (case_at cs) (class_of config p))) (shown_of net policy config f p outcome)
  shows_alike = record {
    dead = λ r low. refl;
    path = λ r low. refl;
    offer = λ r peer at_router at_peer. offers_are net policy config cs rules kept passes p prefix outcome f r peer;
  }
