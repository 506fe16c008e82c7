-- What is so of a configuration with what stays.
use Rattle.std.specs.Prelude.{◌≡◌, ℕ, List, Some, slice_get}
use Rattle.net_base.specs.Network.{PlainNet}
use Rattle.policy_base.specs.Policies.{PlainPolicy}
use Rattle.config_base.specs.Configs.{PlainConfig}
use Rattle.evidence_base.specs.Made.{PlainCaseEvidence}
use Rattle.evidence_law.specs.Passes.{Passes}
use Rattle.evidence_reuse.specs.Reused.{IsReuse, IsReusedEvidence, pairs_with}
use Rattle.evidence_reuse.specs.Staying.{Stays}

-- its evidence passes
abbrev pub ReusedEvidencePasses : Type 0
ReusedEvidencePasses =
    (net : PlainNet) (policy : PlainPolicy) (old config : PlainConfig) (olds ds : List PlainCaseEvidence) → IsReuse net policy old olds config ds → Passes net policy config ds

-- A compiled case that stays as an old one has its numbers and its tags.
abbrev pub WhatStaysIsKept : Type 0
WhatStaysIsKept =
    (net : PlainNet) (policy : PlainPolicy) (old : PlainConfig) (olds ds : List PlainCaseEvidence) (is : IsReusedEvidence net policy old olds ds)
    (k : ℕ) (c d e : PlainCaseEvidence) → slice_get is.compiled k ≡ Some c → slice_get ds k ≡ Some d
    → Stays (pairs_with old policy is.renewed) olds is.compiled k c e → (d.graph ≡ e.graph) × (d.numbers ≡ e.numbers) × (d.tags ≡ e.tags)

-- there is one
abbrev pub ReusesAreOne : Type 0
ReusesAreOne =
    (net : PlainNet) (policy : PlainPolicy) (old config other : PlainConfig) (olds ds es : List PlainCaseEvidence) → IsReuse net policy old olds config ds
    → IsReuse net policy old olds other es → (ds ≡ es) × (config ≡ other)
