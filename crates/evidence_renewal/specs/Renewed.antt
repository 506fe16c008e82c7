-- The evidence of what is compiled from a policy, with tags and preferences that an old configuration leaves free.
use Rattle.std.specs.Prelude.{◌≡◌, ℕ, ◌+◌, ◌<◌, ◌≤◌, ◌^◌, ◌==◌, List, [], ◌∷◌, map, if◌then◌else◌}
use Rattle.std.specs.List.{AllByRecursion}
use Rattle.list_law.specs.Members.{IsIn}
use Rattle.net_base.specs.declared.numbers.Tag.{Tag}
use Rattle.net_base.specs.Network.{PlainNet}
use Rattle.policy_base.specs.Policies.{PlainPolicy}
use Rattle.config_base.specs.Configs.{PlainConfig}
use Rattle.evidence_base.specs.Made.{PlainCaseEvidence, IsConfigOf}
use Rattle.free_tags.specs.Free.{AreNewTags}
use Rattle.free_tags.specs.Taken.{greatest, prefs_in, tags_in}
use Rattle.evidence_renewal.specs.declared.fault.RenewalFault.{RenewalFault}
use Rattle.evidence_renewal.specs.declared.fault.RenewalFault.TheVariants.{NoMemory, PrefsRunOut}
use Rattle.compile_core.specs.Compiling.{IsEvidenceOfMade}

-- A preference number, raised; 0 stands for none.
abbrev pub raised : ℕ → ℕ → ℕ
raised by n = if n == 0 then 0 else n + by

-- A case with tags that are free where these are taken, and with numbers raised by so much, which still have 32 bits.
pub record IsRenewedCase (taken : List Tag) (by : ℕ) (c d : PlainCaseEvidence) : Type 0 where
  pub case : d.case ≡ c.case
  pub graph : d.graph ≡ c.graph
  pub numbers : d.numbers ≡ map (raised by) c.numbers
  pub fit : AllByRecursion (λ n. raised by n < 2 ^ 32) c.numbers
  pub tags : AreNewTags taken c.tags d.tags

-- the same of each
abbrev pub AreRenewedCases : List Tag → ℕ → List PlainCaseEvidence → List PlainCaseEvidence → Type 0
AreRenewedCases taken by [] [] = Unit {0}
AreRenewedCases taken by (c ∷ cs) (d ∷ ds) = IsRenewedCase taken by c d × AreRenewedCases taken by cs ds
AreRenewedCases taken by _ _ = ⊥

-- of the evidence that is compiled, with what an old configuration leaves free
abbrev pub AreRenewed : PlainConfig → List PlainCaseEvidence → List PlainCaseEvidence → Type 0
AreRenewed old cs ds = AreRenewedCases (tags_in old) (greatest (prefs_in old)) cs ds

-- Why numbers aren't raised by so much: one of them would pass 32 bits. Want of memory says nothing.
abbrev pub IsTooGreat : ℕ → List ℕ → RenewalFault → Type 0
IsTooGreat by numbers NoMemory = Unit {0}
IsTooGreat by numbers (PrefsRunOut top) = (top ≡ by) × (n : ℕ) × IsIn numbers n × (2 ^ 32 ≤ raised by n)

-- A number of some case, raised by so much, passes 32 bits.
pub record RunsOut (by : ℕ) (cs : List PlainCaseEvidence) : Type 0 where
  pub case : PlainCaseEvidence
  pub is : IsIn cs case
  pub number : ℕ
  pub among : IsIn case.numbers number
  pub past : 2 ^ 32 ≤ raised by number

-- Why evidence isn't renewed.
abbrev pub IsFaultOf : ℕ → List PlainCaseEvidence → RenewalFault → Type 0
IsFaultOf by cs NoMemory = Unit {0}
IsFaultOf by cs (PrefsRunOut top) = (top ≡ by) × RunsOut by cs

-- The evidence of a policy with tags and preferences that an old configuration leaves free: that of what is compiled, renewed.
pub record IsRenewedEvidence (net : PlainNet) (policy : PlainPolicy) (old : PlainConfig) (ds : List PlainCaseEvidence) : Type 0 where
  pub compiled : List PlainCaseEvidence
  pub made : IsEvidenceOfMade net policy compiled
  pub renewed : AreRenewed old compiled ds

-- and the configuration that is made of it
pub record IsRenewal (net : PlainNet) (policy : PlainPolicy) (old config : PlainConfig) (ds : List PlainCaseEvidence) : Type 0 where
  pub evidence : IsRenewedEvidence net policy old ds
  pub lines : IsConfigOf net policy ds config
