-- Which paths a policy allows, and which sources it claims.
use Rattle.std.specs.Prelude.{ℕ, Bool, true, not, ◌&&◌, IsTrue, List, ◌∷◌, is_some, IsSome}
use Rattle.std.specs.List.{list_any}
use Rattle.net_base.specs.Network.{PlainNet, is_peer, is_router}
use Rattle.net_base.specs.Sets.{holds}
use Rattle.net_base.specs.Prefixes.{PlainPrefix}
use Rattle.policy_base.specs.declared.policy.FromSet.{FromSet}
use Rattle.policy_base.specs.declared.policy.FromSet.TheVariants.{Any, Named}
use Rattle.policy_base.specs.Policies.{PlainStatement, PlainPolicy}
use Rattle.policy_base.specs.Meaning.{at_first, at_last, front, rank_of}
use Rattle.policy_base.specs.Walks.{is_walk, is_loop_free}
use Rattle.policy_base.specs.Governing.{originated_at, is_origin}

abbrev pub from_holds : FromSet → ℕ → Bool
from_holds Any l = true
from_holds (Named s) l = holds s l

-- the walk ends at an origin, and no other place of it is one
abbrev pub ends_at_origin : (ℕ → Bool) → List ℕ → Bool
ends_at_origin origin path = at_last origin path && not (list_any origin (front path))

-- a walk of the prefix's case
abbrev pub is_case_walk : PlainNet → PlainPolicy → PlainPrefix → List ℕ → Bool
is_case_walk net policy p path = is_walk net path && ends_at_origin (is_origin net policy p) path

-- a walk that the statement permits: it starts in its `from` set and has a rank
abbrev pub is_permitted : PlainNet → PlainPolicy → PlainPrefix → PlainStatement → List ℕ → Bool
is_permitted net policy p s path = is_case_walk net policy p path && at_first (from_holds s.from) path && is_some (rank_of net s.ranked path)

-- a permitted walk without a loop
abbrev pub is_allowed : PlainNet → PlainPolicy → PlainPrefix → PlainStatement → List ℕ → Bool
is_allowed net policy p s path = is_permitted net policy p s path && is_loop_free path

-- a router that the statement claims: it isn't an origin, it's in the `from` set and starts a permitted walk
pub record IsClaimedRouter (net : PlainNet) (policy : PlainPolicy) (p : PlainPrefix) (s : PlainStatement) (r : ℕ) : Type 0 where
  pub at_router : IsTrue (is_router net r)
  pub no_origin : IsTrue (not (is_origin net policy p r))
  pub from : IsTrue (from_holds s.from r)
  pub starts : (rest : List ℕ) × IsTrue (is_permitted net policy p s (r ∷ rest))

-- a session of a router to a peer that the statement claims; the origins are routers
pub record IsClaimedSession (net : PlainNet) (policy : PlainPolicy) (p : PlainPrefix) (s : PlainStatement) (r peer : ℕ) : Type 0 where
  pub at_router : IsTrue (is_router net r)
  pub at_peer : IsTrue (is_peer net peer)
  pub originated : IsSome (originated_at policy.origins p)
  pub from : IsTrue (from_holds s.from peer)
  pub starts : (rest : List ℕ) × IsTrue (is_permitted net policy p s (peer ∷ r ∷ rest))
