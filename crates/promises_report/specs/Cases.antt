-- What is told of the cases of a policy, by the evidence for them.
use Rattle.std.specs.Prelude.{◌≡◌, ℕ, ◌≤◌, ◌+◌, ◌*◌, Bool, List, [], ◌∷◌, length, map}
use Rattle.std.specs.List.{IsDistinct}
use Rattle.list_law.specs.Members.{IsIn}
use Rattle.net_base.specs.Network.{PlainNet}
use Rattle.policy_base.specs.Policies.{PlainPolicy}
use Rattle.graph_base.specs.Rules.{same_pair}
use Rattle.graph_base.specs.Runs.{place_of}
use Rattle.evidence_base.specs.Made.{PlainCaseEvidence}
use Rattle.policy_base.specs.declared.case.Case.{Case}
use Rattle.promises_report.specs.Groups.{alone, groups_of, rows_of}
use Rattle.promises_report.specs.Promises.{Promises}
use Rattle.promises_report.specs.Standings.{Row, row_of}
use Rattle.promises_report.specs.Taking.{takes, taking_cases}
use Rattle.promises_report.specs.Telling.{IsTold}
use Rattle.promises_report.specs.Counting.{case_counts, counts_in}
use Rattle.promises_report.specs.declared.counts.Counts.{Counts}
use Rattle.promises_report.specs.declared.group.Group.{Group}
use Rattle.own_space.specs.declared.open_case.OpenCase.{OpenCase}

-- no node of a graph steps to two nodes at one location
abbrev pub HasOneStep : PlainCaseEvidence → Type 0
HasOneStep d = IsDistinct same_pair (map (λ (s : ℕ × ℕ). (s.0, place_of d.graph s.1)) d.graph.steps)

abbrev pub HaveOneStep : List PlainCaseEvidence → Type 0
HaveOneStep ds = (d : PlainCaseEvidence) → IsIn ds d → HasOneStep d

-- each graph tells the promises for its case
abbrev pub AreTold : PlainNet → List PlainCaseEvidence → List Promises → Type 0
AreTold net [] [] = Unit {0}
AreTold net [] (a ∷ xs) = ⊥
AreTold net (d ∷ ds) [] = ⊥
AreTold net (d ∷ ds) (a ∷ xs) = IsTold net d a × AreTold net ds xs

-- how all stand in a group
abbrev pub row_in : Group → Row
row_in g = record { routers = g.routers; origins = g.origins; sessions = g.sessions }

-- how many are counted
abbrev pub all_of : Counts → ℕ
all_of n = n.unclaimed + n.transit + n.covered + n.unused

-- What is told of a case, as a group of its own: how all stand in it, how many of each kind that is, and whether some router takes what
-- peers announce.
pub record TellsCase (net : PlainNet) (policy : PlainPolicy) (number : ℕ) (d : PlainCaseEvidence) (group : Group) (counts : Counts) (takes_some : Bool) : Type 0 where
  pub promises : Promises
  pub told : IsTold net d promises
  pub group_is : group ≡ alone net policy number d.case (row_of net d.case promises)
  pub counts_are : counts ≡ case_counts net policy d.case (row_of net d.case promises)
  pub takes_are : takes_some ≡ takes net d.case promises
  pub room : all_of counts ≤ 65536

abbrev pub cases_of : List PlainCaseEvidence → List Case
cases_of ds = map (λ (d : PlainCaseEvidence). d.case) ds

-- What is told of cases, from the first on.
pub record TellsCases (net : PlainNet) (policy : PlainPolicy) (ds : List PlainCaseEvidence) (groups : List Group) (counts : Counts) (taking : List OpenCase) : Type 0 where
  pub promises : List Promises
  pub told : AreTold net ds promises
  pub groups_are : groups ≡ groups_of net policy 1 (cases_of ds) (rows_of net (cases_of ds) promises) []
  pub counts_are : counts ≡ counts_in net policy (cases_of ds) (rows_of net (cases_of ds) promises)
  pub taking_are : taking ≡ taking_cases net 1 (cases_of ds) promises
  pub room : all_of counts ≤ 65536 * length ds
