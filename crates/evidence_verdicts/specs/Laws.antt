-- The laws of the ten rules.
use Rattle.std.specs.Prelude.{◌≡◌, ◌↔◌, List}
use Rattle.net_base.specs.Network.{PlainNet}
use Rattle.policy_base.specs.Policies.{PlainPolicy}
use Rattle.config_base.specs.Configs.{PlainConfig}
use Rattle.evidence_base.specs.Made.{PlainCaseEvidence, IsConfigOf}
use Rattle.evidence_law.specs.Passes.{Passes}
use Rattle.evidence_verdicts.specs.declared.rule.CheckRule.{CheckRule}
use Rattle.evidence_verdicts.specs.declared.verdict.Verdict.{Verdict}
use Rattle.evidence_verdicts.specs.Rules.{Keeps}
use Rattle.evidence_verdicts.specs.Verdicts.{IsVerdict}

abbrev pub PassingIsTheTenRules : Type 0
PassingIsTheTenRules = (net : PlainNet) (policy : PlainPolicy) (config : PlainConfig) (cs : List PlainCaseEvidence)
    → Passes net policy config cs ↔ ((r : CheckRule) → Keeps r net policy cs) × IsConfigOf net policy cs config

abbrev pub VerdictsAreOne : Type 0
VerdictsAreOne = (net : PlainNet) (policy : PlainPolicy) (config : PlainConfig) (cs : List PlainCaseEvidence) (v w : Verdict)
    → IsVerdict net policy config cs v → IsVerdict net policy config cs w → v ≡ w
