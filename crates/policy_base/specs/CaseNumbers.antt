-- A case by its number, with its statement and its origins.
use Rattle.std.specs.Prelude.{◌≡◌, ℕ, IsTrue, zero, suc, List, Option, Some, None, slice_get}
use Rattle.net_base.specs.Network.{PlainNet, IsNet, is_router}
use Rattle.net_base.specs.Sets.{holds}
use Rattle.policy_base.specs.declared.case.Case.{Case}
use Rattle.policy_base.specs.declared.policy.Origin.{Origin}
use Rattle.policy_base.specs.Cases.{case_list}
use Rattle.policy_base.specs.Policies.{PlainPolicy, PlainStatement, statement_at}
use Rattle.list_law.specs.Members.{IsIn}
use Rattle.policy_base.specs.CaseOrigins.{AreOrigins}

-- each `originate` item names routers alone
abbrev pub OriginsAreRouters : PlainNet → List Origin → Type 0
OriginsAreRouters net items = (o : Origin) (l : ℕ) → IsIn items o → IsTrue (holds o.at l) → IsTrue (is_router net l)

-- a case by its number, from 1
abbrev pub case_at : List Case → ℕ → Option Case
case_at cs zero = None
case_at cs (suc k) = slice_get cs k

-- the case with this number, and its statement
pub record IsCase (net : PlainNet) (policy : PlainPolicy) (number : ℕ) (s : PlainStatement) (c : Case) : Type 0 where
  pub case : case_at (case_list net policy) number ≡ Some c
  pub statement : statement_at policy c.statement ≡ Some s

-- what is said of the case with this number and of its statement
abbrev pub OfCase : PlainNet → PlainPolicy → ℕ → (PlainStatement → Case → Type 0) → Type 0
OfCase net policy number Says = (s : PlainStatement) (c : Case) → IsCase net policy number s c → Says s c

-- the origins of a case are all peers of the network, or routers of it
abbrev pub FitsOrigins : PlainNet → Case → Type 0
FitsOrigins net c = IsNet net → AreOrigins net (holds c.origins) c.external
