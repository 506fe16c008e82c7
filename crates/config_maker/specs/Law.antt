-- Case lists can be made into configurations, each into one.
use Rattle.std.specs.Prelude.{◌≡◌, List}
use Rattle.net_base.specs.Network.{IsNet, PlainNet}
use Rattle.policy_base.specs.Policies.{PlainPolicy, IsPolicy}
use Rattle.policy_base.specs.Cases.{case_list}
use Rattle.config_base.specs.Configs.{PlainConfig}
use Rattle.evidence_base.specs.Made.{PlainCaseEvidence, AreTags, IsConfigOf}
use Rattle.config_maker.specs.Conditions.{AreClasses, AreGraphs, AreSingle}

-- Each case of a policy has a pattern, and a policy has fewer cases than a class has numbers.
abbrev pub CaseListsAreClasses : Type 0
CaseListsAreClasses = (net : PlainNet) (policy : PlainPolicy) → IsPolicy policy → AreClasses policy (case_list net policy)

-- Two configurations that are made of the same cases are one.
abbrev pub MadeConfigurationsAreOne : Type 0
MadeConfigurationsAreOne =
    (net : PlainNet) (policy : PlainPolicy) (cs : List PlainCaseEvidence) (config other : PlainConfig) → IsConfigOf net policy cs config
    → IsConfigOf net policy cs other → config ≡ other

-- Of cases with such graphs, and with tags that differ, a configuration can be made.
abbrev pub ConfigurationsCanBeMade : Type 0
ConfigurationsCanBeMade =
    (net : PlainNet) (policy : PlainPolicy) (cs : List PlainCaseEvidence) → IsNet net → AreGraphs cs → AreSingle net cs → AreTags net cs
    → (config : PlainConfig) × IsConfigOf net policy cs config
