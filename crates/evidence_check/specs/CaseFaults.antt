-- The first rule that fails in one case, and in the cases so far.
use Rattle.std.specs.Prelude.{ℕ, ◌<◌, ◌≤◌, List, nat_le, Option, Some, None, take, if◌then◌else◌}
use Rattle.net_base.specs.Network.{PlainNet}
use Rattle.policy_base.specs.Cases.{case_list}
use Rattle.policy_base.specs.Policies.{PlainPolicy}
use Rattle.evidence_base.specs.Made.{PlainCaseEvidence}
use Rattle.evidence_law.specs.Passes.{all_steps}
use Rattle.preference_check.specs.FirstPair.{IsFirstPair}
use Rattle.evidence_verdicts.specs.declared.rule.CheckRule.{CheckRule}
use Rattle.evidence_verdicts.specs.Rules.{IsListed, KeepsAt, Keeps, rule_number}
use Rattle.evidence_verdicts.specs.Verdicts.{IsFirstAt, KeepsBefore}
use Rattle.evidence_check.specs.declared.case_rules.Fault.{Fault}
use Rattle.evidence_check.specs.declared.cases.CaseFault.{CaseFault}
use Rattle.evidence_check.specs.Listed.{AreWithinTo}

-- a rule holds at a case, whatever the nodes
abbrev pub KeepsIn : CheckRule → PlainNet → PlainPolicy → List PlainCaseEvidence → ℕ → Type 0
KeepsIn rule net policy cs k = (m n : ℕ) → KeepsAt rule net policy cs k m n

-- Of the rules from the one with this number to that on listeners, this is the first that fails in a case, with the first
-- nodes at which it does.
pub record IsFirstFault (from : ℕ) (net : PlainNet) (policy : PlainPolicy) (cs : List PlainCaseEvidence) (k : ℕ) (fault : Fault) : Type 0 where
  pub least : from ≤ rule_number fault.rule
  pub most : rule_number fault.rule < 9
  pub earlier : (r : CheckRule) → from ≤ rule_number r → rule_number r < rule_number fault.rule → KeepsIn r net policy cs k
  pub first : IsFirstPair (KeepsAt fault.rule net policy cs k) (fault.first, fault.second)

-- or none of them fails
abbrev pub IsFaultFrom : ℕ → PlainNet → PlainPolicy → List PlainCaseEvidence → ℕ → Option Fault → Type 0
IsFaultFrom from net policy cs k None = (r : CheckRule) → from ≤ rule_number r → rule_number r < 9 → KeepsIn r net policy cs k
IsFaultFrom from net policy cs k (Some fault) = IsFirstFault from net policy cs k fault

-- ---- the cases so far

-- the one of two faults whose rule comes first; of one rule the first one
abbrev pub lesser_of : CaseFault → CaseFault → CaseFault
lesser_of f g = if nat_le (rule_number f.fault.rule) (rule_number g.fault.rule) then f else g

-- what was found so far, and then in a case
abbrev pub least_with : Option CaseFault → ℕ → Option Fault → Option CaseFault
least_with o k None = o
least_with None k (Some g) = Some (record { case = k; fault = g })
least_with (Some f) k (Some g) = Some (lesser_of f (record { case = k; fault = g }))

-- a rule holds in the first j cases
abbrev pub KeepsUpTo : CheckRule → PlainNet → PlainPolicy → List PlainCaseEvidence → ℕ → Type 0
KeepsUpTo rule net policy cs j = (k : ℕ) → k ≤ j → KeepsIn rule net policy cs k

-- the first of the rules before that on tags that fails in the first j cases, in the first case in which it does
pub record IsLeastUpTo (net : PlainNet) (policy : PlainPolicy) (cs : List PlainCaseEvidence) (j : ℕ) (found : CaseFault) : Type 0 where
  pub most : rule_number found.fault.rule < 9
  pub earlier : (r : CheckRule) → rule_number r < rule_number found.fault.rule → KeepsUpTo r net policy cs j
  pub first : IsFirstAt (KeepsAt found.fault.rule net policy cs) found.case found.fault.first found.fault.second

abbrev pub IsLeast : PlainNet → PlainPolicy → List PlainCaseEvidence → ℕ → Option CaseFault → Type 0
IsLeast net policy cs j None = (r : CheckRule) → rule_number r < 9 → KeepsUpTo r net policy cs j
IsLeast net policy cs j (Some found) = IsLeastUpTo net policy cs j found

-- the first j cases are listed, and leave so much of the room
pub record AreListed (net : PlainNet) (policy : PlainPolicy) (cs : List PlainCaseEvidence) (j room : ℕ) : Type 0 where
  pub each : (k : ℕ) → k ≤ j → IsListed net policy cs k
  pub within : AreWithinTo net policy all_steps (take j (case_list net policy)) room

-- over all cases
pub record IsLeastFault (net : PlainNet) (policy : PlainPolicy) (cs : List PlainCaseEvidence) (found : CaseFault) : Type 0 where
  pub most : rule_number found.fault.rule < 9
  pub earlier : KeepsBefore found.fault.rule net policy cs
  pub first : IsFirstAt (KeepsAt found.fault.rule net policy cs) found.case found.fault.first found.fault.second

abbrev pub IsLeastOrNone : PlainNet → PlainPolicy → List PlainCaseEvidence → Option CaseFault → Type 0
IsLeastOrNone net policy cs None = (r : CheckRule) → rule_number r < 9 → Keeps r net policy cs
IsLeastOrNone net policy cs (Some found) = IsLeastFault net policy cs found
