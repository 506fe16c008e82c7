-- The laws of the claim.
use Rattle.std.specs.Prelude.{List}
use Rattle.net_base.specs.Network.{PlainNet, IsNet}
use Rattle.policy_base.specs.Policies.{PlainPolicy, IsPolicyOf}
use Rattle.config_base.specs.Configs.{PlainConfig}
use Rattle.evidence_base.specs.Made.{PlainCaseEvidence}
use Rattle.evidence_law.specs.Passes.{IsMadeOf, Passes}
use Rattle.claim_law.specs.Claim.{KeepsPolicy, IsKeptAtWork}
use Rattle.claim_law.specs.OfNet.{IsOfNet}
use Rattle.claim_law.specs.Taken.{TakesPermitted}

-- Whatever its preference numbers are, a configuration that is made of graphs of the policy's cases is of its network.
abbrev pub MadeConfigurationsAreOfTheirNet : Type 0
MadeConfigurationsAreOfTheirNet =
    (net : PlainNet) (policy : PlainPolicy) (config : PlainConfig) (cs : List PlainCaseEvidence) → IsNet net → IsPolicyOf net policy
    → IsMadeOf net policy config cs → IsOfNet net policy config

-- And its routers take from peers what permitted walks end with.
abbrev pub MadeConfigurationsTakePermitted : Type 0
MadeConfigurationsTakePermitted =
    (net : PlainNet) (policy : PlainPolicy) (config : PlainConfig) (cs : List PlainCaseEvidence) → IsNet net → IsPolicyOf net policy
    → IsMadeOf net policy config cs → TakesPermitted net policy config

-- Where the evidence passes, the configuration keeps the policy.
abbrev pub PassingEvidenceKeepsPolicy : Type 0
PassingEvidenceKeepsPolicy =
    (net : PlainNet) (policy : PlainPolicy) (config : PlainConfig) (cs : List PlainCaseEvidence) → IsNet net → IsPolicyOf net policy
    → Passes net policy config cs → KeepsPolicy net policy config

-- And it keeps it at work.
abbrev pub PassingEvidenceKeepsItAtWork : Type 0
PassingEvidenceKeepsItAtWork =
    (net : PlainNet) (policy : PlainPolicy) (config : PlainConfig) (cs : List PlainCaseEvidence) → IsNet net → IsPolicyOf net policy
    → Passes net policy config cs → IsKeptAtWork net policy config
