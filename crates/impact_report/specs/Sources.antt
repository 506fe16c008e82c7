-- The claimed sources of a prefix, in order.
use Rattle.std.specs.Prelude.{◌≡◌, ℕ, ◌<◌, Bool, List, ◌++◌, length, map, filter, Option, Some, None, slice_get}
use Rattle.list_law.specs.Members.{IsIn}
use Rattle.net_base.specs.Locations.{numbers_below}
use Rattle.net_base.specs.Network.{PlainNet}
use Rattle.net_base.specs.Prefixes.{PlainPrefix}
use Rattle.policy_base.specs.Policies.{PlainPolicy, PlainStatement}
use Rattle.outcome_claims.specs.Claims.{Sources}
use Rattle.impact_law.specs.Impacts.{IsSource, Precedes}
use Rattle.impact_law.specs.declared.impact.SourceRank.{SourceRank}
use Rattle.impact_report.specs.declared.sources.Source.{Source}

abbrev pub router_source : ℕ → Source
router_source r = record { router = r; peer = None }

abbrev pub session_source : ℕ × ℕ → Source
session_source e = record { router = e.0; peer = Some e.1 }

-- the routers below a number that pass a test
abbrev pub router_sources : (ℕ → Bool) → ℕ → List Source
router_sources claimed count = map router_source (filter claimed (numbers_below count))

-- routers by location, and then sessions as they stand
abbrev pub sources_in : PlainNet → Sources → List Source
sources_in net claimed = router_sources claimed.routers (length net.routers) ++ map session_source claimed.sessions

-- These are the sources that a statement claims, in order.
pub record AreSources (net : PlainNet) (policy : PlainPolicy) (p : PlainPrefix) (s : PlainStatement) (xs : List Source) : Type 0 where
  pub each : (x : Source) → IsIn xs x → IsSource net policy p s x.router x.peer
  pub all : (r : ℕ) (peer : Option ℕ) → IsSource net policy p s r peer → IsIn xs (record { router = r; peer = peer })
  pub order : (i j : ℕ) (x y : Source) → i < j → slice_get xs i ≡ Some x → slice_get xs j ≡ Some y → Precedes x.router x.peer y.router y.peer

-- a source with a rank
abbrev pub with_rank : (ℕ → Option ℕ → Option ℕ) → Source → SourceRank
with_rank rank x = record { router = x.router; peer = x.peer; rank = rank x.router x.peer }

-- with another rank
abbrev pub reranked : (ℕ → Option ℕ → Option ℕ) → SourceRank → SourceRank
reranked rank x = record { router = x.router; peer = x.peer; rank = rank x.router x.peer }
