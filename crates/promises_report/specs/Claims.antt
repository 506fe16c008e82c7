-- What the statement of a case claims, whichever prefix of the case is meant.
use Rattle.std.specs.Prelude.{◌≡◌, ℕ, ◌≤◌, Bool, false, not, ◌&&◌, IsTrue, List, ◌∷◌, ◌++◌, Option, Some, None}
use Rattle.net_base.specs.Network.{PlainNet, is_peer, is_router}
use Rattle.net_base.specs.Sets.{holds}
use Rattle.policy_base.specs.declared.case.Case.{Case}
use Rattle.policy_base.specs.Policies.{PlainStatement}
use Rattle.policy_base.specs.Meaning.{rank_of}
use Rattle.policy_base.specs.Permitted.{from_holds}
use Rattle.policy_base.specs.Walks.{is_loop_free}
use Rattle.evidence_law.specs.Faithful.{permits}
use Rattle.evidence_law.specs.Passes.{IsClaimed}
use Rattle.impact_law.specs.Impacts.{begin_at}

-- where a case can have a source: a router that isn't an origin or, where the origins are routers, a session of a router to a peer
abbrev pub IsPlace : PlainNet → Case → ℕ → Option ℕ → Type 0
IsPlace net c r None = IsTrue (is_router net r && not (holds c.origins r))
IsPlace net c r (Some peer) = (c.external ≡ false) × IsTrue (is_router net r && is_peer net peer)

-- a router, or a session of a router to a peer
abbrev pub is_site : PlainNet → ℕ → Option ℕ → Bool
is_site net r None = is_router net r
is_site net r (Some peer) = is_router net r && is_peer net peer

-- a session of a router to a peer that the statement claims
pub record IsClaimedOver (net : PlainNet) (s : PlainStatement) (c : Case) (r peer : ℕ) : Type 0 where
  pub at : IsPlace net c r (Some peer)
  pub from : IsTrue (from_holds s.from peer)
  pub starts : (rest : List ℕ) × IsTrue (permits net (holds c.origins) s (peer ∷ r ∷ rest))

-- a router, or its session to a peer, that the statement claims
abbrev pub IsSourceIn : PlainNet → PlainStatement → Case → ℕ → Option ℕ → Type 0
IsSourceIn net s c r None = IsClaimed net s c r
IsSourceIn net s c r (Some peer) = IsClaimedOver net s c r peer

-- a walk that the statement permits begins at the source, and has the rank
pub record HasWalk (net : PlainNet) (s : PlainStatement) (c : Case) (r : ℕ) (peer : Option ℕ) (n : ℕ) : Type 0 where
  pub source : IsSourceIn net s c r peer
  pub rest : List ℕ
  pub permitted : IsTrue (permits net (holds c.origins) s (begin_at r peer ++ rest))
  pub rank : rank_of net s.ranked (begin_at r peer ++ rest) ≡ Some n

-- a walk of the case that the statement permits, without a loop
abbrev pub is_allowed_in : PlainNet → PlainStatement → Case → List ℕ → Bool
is_allowed_in net s c path = permits net (holds c.origins) s path && is_loop_free path

-- n is the rank of an allowed path that begins with `begin`, and the least one
pub record IsLeastRank (net : PlainNet) (s : PlainStatement) (c : Case) (begin : List ℕ) (n : ℕ) : Type 0 where
  pub path : (rest : List ℕ) × IsTrue (is_allowed_in net s c (begin ++ rest)) × (rank_of net s.ranked (begin ++ rest) ≡ Some n)
  pub least : (rest : List ℕ) (m : ℕ) → IsTrue (is_allowed_in net s c (begin ++ rest)) → rank_of net s.ranked (begin ++ rest) ≡ Some m → n ≤ m

-- a permitted walk goes over the router
abbrev pub IsPassed : PlainNet → PlainStatement → Case → ℕ → Type 0
IsPassed net s c r = (above : List ℕ) × (rest : List ℕ) × IsTrue (permits net (holds c.origins) s (above ++ r ∷ rest))
