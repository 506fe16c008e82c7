-- Which sources of a case are without a path, and which have ways with a rank and ways without one.
use Rattle.std.specs.Prelude.{◌≡◌, ℕ, ◌≤◌, Bool, false, not, IsTrue, List, ◌∷◌, ◌++◌, None}
use Rattle.net_base.specs.Network.{PlainNet, is_router}
use Rattle.net_base.specs.Sets.{holds}
use Rattle.policy_base.specs.declared.case.Case.{Case}
use Rattle.policy_base.specs.declared.policy.FromSet.{FromSet}
use Rattle.policy_base.specs.declared.policy.FromSet.TheVariants.{Any, Named}
use Rattle.policy_base.specs.Meaning.{rank_of}
use Rattle.policy_base.specs.Policies.{PlainStatement}
use Rattle.evidence_law.specs.Faithful.{is_walk_to, permits}
use Rattle.evidence_law.specs.Passes.{IsClaimed}

-- the least number of which something holds
abbrev pub IsLeast : (ℕ → Type 0) → ℕ → Type 0
IsLeast Holds n = Holds n × ((k : ℕ) → Holds k → n ≤ k)

-- `from` names the location, and not by `any`
abbrev pub names : FromSet → ℕ → Bool
names Any l = false
names (Named set) l = holds set l

-- a router that `from` names and that is no origin
pub record IsNamedSource (net : PlainNet) (s : PlainStatement) (c : Case) (r : ℕ) : Type 0 where
  pub at_router : IsTrue (is_router net r)
  pub named : IsTrue (names s.from r)
  pub no_origin : IsTrue (not (holds c.origins r))

-- a permitted walk starts there
abbrev pub HasPath : PlainNet → PlainStatement → Case → ℕ → Type 0
HasPath net s c r = (rest : List ℕ) × IsTrue (permits net (holds c.origins) s (r ∷ rest))

abbrev pub IsWithoutPath : PlainNet → PlainStatement → Case → ℕ → Type 0
IsWithoutPath net s c r = IsNamedSource net s c r × ¬ HasPath net s c r

abbrev pub HavePaths : PlainNet → PlainStatement → Case → Type 0
HavePaths net s c = (r : ℕ) → IsNamedSource net s c r → HasPath net s c r

-- a walk without a rank that a permitted walk ends with
pub record IsUnranked (net : PlainNet) (s : PlainStatement) (c : Case) (path : List ℕ) : Type 0 where
  pub walk : IsTrue (is_walk_to net (holds c.origins) path)
  pub rank : rank_of net s.ranked path ≡ None
  pub suffix : (above : List ℕ) × IsTrue (permits net (holds c.origins) s (above ++ path))

-- a claimed router, where a permitted walk starts, at which such a walk starts too
abbrev pub IsMixed : PlainNet → PlainStatement → Case → ℕ → Type 0
IsMixed net s c r = IsClaimed net s c r × ((rest : List ℕ) × IsUnranked net s c (r ∷ rest))

abbrev pub NoneMixed : PlainNet → PlainStatement → Case → Type 0
NoneMixed net s c = (r : ℕ) → ¬ IsMixed net s c r
