-- The evidence of what is compiled from a policy, where what stays has the tags and numbers of an old configuration's evidence, and all else is
-- renewed.
use Rattle.std.specs.Prelude.{◌≡◌, ◌⊎◌, ℕ, List, length, map, Some, slice_get}
use Rattle.net_base.specs.Network.{PlainNet}
use Rattle.net_base.specs.Prefixes.{PlainPattern}
use Rattle.policy_base.specs.Policies.{PlainPolicy}
use Rattle.config_base.specs.Configs.{PlainConfig}
use Rattle.evidence_base.specs.Made.{PlainCaseEvidence, IsConfigOf, patterns_of}
use Rattle.evidence_verdicts.specs.Rules.{KeepsTag}
use Rattle.free_tags.specs.Taken.{greatest, prefs_in}
use Rattle.compile_core.specs.Compiling.{IsEvidenceOfMade}
use Rattle.evidence_renewal.specs.declared.fault.RenewalFault.{RenewalFault}
use Rattle.evidence_renewal.specs.declared.fault.RenewalFault.TheVariants as renewal
use Rattle.evidence_renewal.specs.Renewed.{AreRenewed, RunsOut}
use Rattle.stage_classes.specs.declared.cell.Cell.{Cell}
use Rattle.stage_classes.specs.Cells.{cells}
use Rattle.stage_check.specs.declared.judging.Verdict.{Verdict}
use Rattle.stage_check.specs.declared.judging.Verdict.TheVariants.{LowPref, SharedTag}
use Rattle.stage_check.specs.Verdicts.{verdict}
use Rattle.evidence_reuse.specs.declared.fault.ReuseFault.{ReuseFault}
use Rattle.evidence_reuse.specs.declared.fault.ReuseFault.TheVariants.{NoMemory, OtherEvidence, PrefsRunOut}
use Rattle.evidence_reuse.specs.Staying.{Stays}

-- ---- cases

-- a case with the numbers and the tags of another one
abbrev pub with_marks : PlainCaseEvidence → PlainCaseEvidence → PlainCaseEvidence
with_marks c x = record { case = c.case; graph = c.graph; numbers = x.numbers; tags = x.tags }

module _ (between : List Cell) (olds cs : List PlainCaseEvidence) where
  -- From where a compiled case has its numbers and tags: from the old case as which it stays, or where there is none from the renewed one.
  abbrev pub IsSource : ℕ → PlainCaseEvidence → PlainCaseEvidence → PlainCaseEvidence → Type 0
  IsSource place c renewed x = Stays between olds cs place c x ⊎ ((x ≡ renewed) × ((e : PlainCaseEvidence) → ¬ Stays between olds cs place c e))

  pub record IsReusedCase (place : ℕ) (c renewed d : PlainCaseEvidence) : Type 0 where
    pub source : PlainCaseEvidence
    pub is : IsSource place c renewed source
    pub made : d ≡ with_marks c source

  -- so is each of the compiled cases
  pub record AreReused (renewed ds : List PlainCaseEvidence) : Type 0 where
    pub count : length ds ≡ length cs
    pub each : (k : ℕ) (c f d : PlainCaseEvidence) → slice_get cs k ≡ Some c → slice_get renewed k ≡ Some f → slice_get ds k ≡ Some d → IsReusedCase k c f d

-- there is a renewed case for each compiled one, with its graph
pub record AreForEach (cs renewed : List PlainCaseEvidence) : Type 0 where
  pub count : length renewed ≡ length cs
  pub graphs : (k : ℕ) (c f : PlainCaseEvidence) → slice_get cs k ≡ Some c → slice_get renewed k ≡ Some f → f.graph ≡ c.graph

-- the patterns of the classes of cases
abbrev pub classes_of : PlainPolicy → List PlainCaseEvidence → List (List PlainPattern)
classes_of policy cs = map (λ (c : PlainCaseEvidence). patterns_of policy c.case) cs

-- the pairs of a class of an old configuration and one of these cases that share prefixes
abbrev pub pairs_with : PlainConfig → PlainPolicy → List PlainCaseEvidence → List Cell
pairs_with old policy cs = cells old.classes (classes_of policy cs)

-- ---- what may take over

-- between says nothing of tags and preferences
abbrev pub LetsTakeOver : Verdict → Type 0
LetsTakeOver (SharedTag t) = ⊥
LetsTakeOver (LowPref n) = ⊥
LetsTakeOver _ = Unit {0}

-- Tags are right by themselves and differ; and the configuration of the cases may take over from an old one.
pub record MayTakeOver (net : PlainNet) (policy : PlainPolicy) (old config : PlainConfig) (ds : List PlainCaseEvidence) : Type 0 where
  pub tags : (k n : ℕ) → KeepsTag net ds k n
  pub lines : IsConfigOf net policy ds config
  pub free : LetsTakeOver (verdict old config)

-- No configuration of the cases may.
abbrev pub MayNot : PlainNet → PlainPolicy → PlainConfig → List PlainCaseEvidence → Type 0
MayNot net policy old ds = (config : PlainConfig) → ¬ MayTakeOver net policy old config ds

-- ---- of a policy

-- The evidence of a policy where what stays is as the evidence of an old configuration has it: that of what is compiled, reused or renewed.
pub record IsReusedEvidence (net : PlainNet) (policy : PlainPolicy) (old : PlainConfig) (olds ds : List PlainCaseEvidence) : Type 0 where
  pub compiled : List PlainCaseEvidence
  pub made : IsEvidenceOfMade net policy compiled
  pub renewed : List PlainCaseEvidence
  pub are_renewed : AreRenewed old compiled renewed
  pub reused : AreReused (pairs_with old policy renewed) olds compiled renewed ds

-- and the configuration that is made of it, which may take over
pub record IsReuse (net : PlainNet) (policy : PlainPolicy) (old : PlainConfig) (olds : List PlainCaseEvidence) (config : PlainConfig) (ds : List PlainCaseEvidence) : Type 0 where
  pub evidence : IsReusedEvidence net policy old olds ds
  pub takes_over : MayTakeOver net policy old config ds

-- None may, with what stays by this evidence.
pub record IsOther (net : PlainNet) (policy : PlainPolicy) (old : PlainConfig) (olds : List PlainCaseEvidence) : Type 0 where
  pub cases : List PlainCaseEvidence
  pub evidence : IsReusedEvidence net policy old olds cases
  pub never : MayNot net policy old cases

-- ---- faults

-- that preferences run out, or want of memory
abbrev pub of_renewal : RenewalFault → ReuseFault
of_renewal renewal.NoMemory = NoMemory
of_renewal (renewal.PrefsRunOut top) = PrefsRunOut top

-- Why nothing may take over with cases: none may. Want of memory says nothing.
abbrev pub IsStop : PlainNet → PlainPolicy → PlainConfig → List PlainCaseEvidence → ReuseFault → Type 0
IsStop net policy old ds NoMemory = Unit {0}
IsStop net policy old ds OtherEvidence = MayNot net policy old ds
IsStop net policy old ds (PrefsRunOut top) = ⊥

-- Why there is nothing of a policy, of which this is compiled.
abbrev pub IsFault : PlainNet → PlainPolicy → PlainConfig → List PlainCaseEvidence → List PlainCaseEvidence → ReuseFault → Type 0
IsFault net policy old olds compiled NoMemory = Unit {0}
IsFault net policy old olds compiled OtherEvidence = IsOther net policy old olds
IsFault net policy old olds compiled (PrefsRunOut top) = (top ≡ greatest (prefs_in old)) × RunsOut (greatest (prefs_in old)) compiled
