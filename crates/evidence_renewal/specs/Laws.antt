-- What is so of a configuration that is renewed.
use Rattle.std.specs.Prelude.{◌≡◌, ℕ, ◌<◌, List}
use Rattle.list_law.specs.Members.{IsIn}
use Rattle.net_base.specs.Network.{PlainNet, IsNet}
use Rattle.policy_base.specs.CaseNumbers.{OriginsAreRouters}
use Rattle.policy_base.specs.Policies.{IsPolicy, PlainPolicy}
use Rattle.config_base.specs.Configs.{PlainConfig}
use Rattle.evidence_base.specs.Made.{PlainCaseEvidence}
use Rattle.evidence_law.specs.Passes.{Passes}
use Rattle.free_tags.specs.Taken.{prefs_in}
use Rattle.rollout_law.specs.Standing.{AreDisjoint}
use Rattle.evidence_renewal.specs.Renewed.{IsRenewal}

-- each preference of the first is above each of the second
abbrev pub IsAbove : PlainConfig → PlainConfig → Type 0
IsAbove new old = (m n : ℕ) → IsIn (prefs_in new) m → IsIn (prefs_in old) n → n < m

-- its evidence passes
abbrev pub RenewedEvidencePasses : Type 0
RenewedEvidencePasses =
    (net : PlainNet) (policy : PlainPolicy) (old config : PlainConfig) (ds : List PlainCaseEvidence) → IsRenewal net policy old config ds → Passes net policy config ds

-- no tag stands in it and in the old one
abbrev pub RenewedConfigurationsAreApart : Type 0
RenewedConfigurationsAreApart =
    (net : PlainNet) (policy : PlainPolicy) (old config : PlainConfig) (ds : List PlainCaseEvidence) → IsNet net → IsRenewal net policy old config ds → AreDisjoint config old

-- each of its preferences is above each of the old one
abbrev pub RenewedConfigurationsAreAbove : Type 0
RenewedConfigurationsAreAbove =
    (net : PlainNet) (policy : PlainPolicy) (old config : PlainConfig) (ds : List PlainCaseEvidence) → IsNet net → IsPolicy policy → OriginsAreRouters net policy.origins
    → IsRenewal net policy old config ds → IsAbove config old

-- there is one
abbrev pub RenewedConfigurationsAreOne : Type 0
RenewedConfigurationsAreOne =
    (net : PlainNet) (policy : PlainPolicy) (old config other : PlainConfig) (ds es : List PlainCaseEvidence) → IsRenewal net policy old config ds
    → IsRenewal net policy old other es → (ds ≡ es) × (config ≡ other)
