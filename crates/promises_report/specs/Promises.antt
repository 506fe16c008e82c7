-- What is promised for a case, and that it is kept for every prefix of the case while nothing has failed.
use Rattle.std.specs.Prelude.{◌≡◌, ◌↔◌, ℕ, Bool, IsTrue, List, length, Option, Some, None, IsSome}
use Rattle.net_base.specs.Network.{PlainNet, is_router}
use Rattle.net_base.specs.Prefixes.{PlainPrefix}
use Rattle.policy_base.specs.declared.case.Case.{Case}
use Rattle.policy_base.specs.Policies.{PlainPolicy, PlainStatement}
use Rattle.policy_base.specs.Meaning.{rank_of}
use Rattle.config_base.specs.declared.route.Route.{Route}
use Rattle.config_base.specs.Configs.{PlainConfig}
use Rattle.outcome_base.specs.Outcomes.{Outcome, offered, route_at, no_failures}
use Rattle.settled_law.specs.Settled.{IsFullyStable}
use Rattle.impact_law.specs.BestRanks.{IsBestRank}
use Rattle.impact_law.specs.Impacts.{IsSource, begin_at}
use Rattle.promises_report.specs.Claims.{HasWalk, IsLeastRank, IsPassed, IsPlace, IsSourceIn, is_site}

-- for each router, or session of a router to a peer, its best rank, or none where it isn't claimed; which routers permitted walks pass; and
-- which ranks the permitted walks of a router, or of its session, have
pub record Promises : Type 0 where
  pub rank : ℕ → Option ℕ → Option ℕ
  pub passes : ℕ → Bool
  pub has_rank : ℕ → Option ℕ → ℕ → Bool

-- ---- by the case

abbrev pub IsPromised : PlainNet → PlainStatement → Case → ℕ → Option ℕ → Option ℕ → Type 0
IsPromised net s c r peer None = ¬ IsSourceIn net s c r peer
IsPromised net s c r peer (Some n) = IsSourceIn net s c r peer × IsLeastRank net s c (begin_at r peer) n

pub record ArePromises (net : PlainNet) (s : PlainStatement) (c : Case) (a : Promises) : Type 0 where
  pub ranks : (r : ℕ) (peer : Option ℕ) → IsPlace net c r peer → IsPromised net s c r peer (a.rank r peer)
  pub walks : (r : ℕ) → IsTrue (is_router net r) → IsTrue (a.passes r) ↔ IsPassed net s c r
  pub have : (r : ℕ) (peer : Option ℕ) (n : ℕ) → IsTrue (is_site net r peer) → IsTrue (a.has_rank r peer n) ↔ HasWalk net s c r peer n

-- ---- by a prefix of the case

abbrev pub IsPromisedFor : PlainNet → PlainPolicy → PlainPrefix → PlainStatement → ℕ → Option ℕ → Option ℕ → Type 0
IsPromisedFor net policy p s r peer None = ¬ IsSource net policy p s r peer
IsPromisedFor net policy p s r peer (Some n) = IsSource net policy p s r peer × IsBestRank net policy no_failures p s (begin_at r peer) (Some n)

-- In an outcome without failures:
pub record IsHeld (net : PlainNet) (policy : PlainPolicy) (config : PlainConfig) (p : PlainPrefix) (s : PlainStatement) (c : Case) (a : Promises) (outcome : Outcome) : Type 0 where
  -- a claimed router holds a route of its best rank;
  pub router : (r n : ℕ) → IsPlace net c r None → a.rank r None ≡ Some n → (h : Route) × (route_at outcome r ≡ Some h) × (rank_of net s.ranked h.path ≡ Some n)
  -- over a claimed session the peer is offered a path of its best rank;
  pub session : (r peer n : ℕ) → IsPlace net c r (Some peer) → a.rank r (Some peer) ≡ Some n
      → (path : List ℕ) × (offered net policy config no_failures p outcome r peer ≡ Some path) × (rank_of net s.ranked path ≡ Some n)
  -- and but for origins exactly the routers that permitted walks pass hold a route.
  pub routes : (r : ℕ) → IsPlace net c r None → IsTrue (a.passes r) ↔ IsSome (route_at outcome r)

-- The promises for a case, which are kept for a prefix of it:
pub record AreKept (net : PlainNet) (policy : PlainPolicy) (config : PlainConfig) (p : PlainPrefix) (s : PlainStatement) (c : Case) (a : Promises) : Type 0 where
  -- every source that is claimed for the prefix is at a place of the case;
  pub places : (r : ℕ) (peer : Option ℕ) → IsSource net policy p s r peer → IsPlace net c r peer
  -- the sources with a rank are those that are claimed for the prefix, and it is their best one;
  pub ranks : (r : ℕ) (peer : Option ℕ) → IsPlace net c r peer → IsPromisedFor net policy p s r peer (a.rank r peer)
  -- and what is settled without failures has these ranks.
  pub settled : (outcome : Outcome) → length outcome ≡ length net.routers → IsFullyStable net policy config no_failures p outcome → IsHeld net policy config p s c a outcome
