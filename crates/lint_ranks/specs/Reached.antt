-- Which ranks the permitted walks of a case and of a statement have.
use Rattle.std.specs.Prelude.{◌≡◌, ℕ, IsTrue, List, Some}
use Rattle.net_base.specs.Network.{PlainNet}
use Rattle.net_base.specs.Sets.{holds}
use Rattle.policy_base.specs.declared.case.Case.{Case}
use Rattle.policy_base.specs.Policies.{PlainPolicy, PlainStatement}
use Rattle.policy_base.specs.Meaning.{rank_of}
use Rattle.evidence_law.specs.Faithful.{permits}
use Rattle.policy_base.specs.CaseNumbers.{IsCase}

-- some permitted walk of the case has this rank
abbrev pub IsRankOfCase : PlainNet → PlainStatement → Case → ℕ → Type 0
IsRankOfCase net s c k = (path : List ℕ) × IsTrue (permits net (holds c.origins) s path) × (rank_of net s.ranked path ≡ Some k)

-- some permitted walk of a case of the statement with this number has this rank
pub record IsReached (net : PlainNet) (policy : PlainPolicy) (n k : ℕ) : Type 0 where
  pub number : ℕ
  pub statement : PlainStatement
  pub case : Case
  pub is : IsCase net policy number statement case
  pub of : case.statement ≡ n
  pub reached : IsRankOfCase net statement case k
