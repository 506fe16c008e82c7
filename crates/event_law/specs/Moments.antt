-- What routers hold and peers hear at every moment, also while messages wait: nothing that isn't allowed, whatever fails and whenever.
use Rattle.std.specs.Prelude.{◌≡◌, ℕ, not, ◌&&◌, IsTrue, List, ◌∷◌, ◌++◌, Option, Some, None, slice_get}
use Rattle.net_base.specs.Network.{PlainNet, IsNet, is_peer, is_router}
use Rattle.net_base.specs.Prefixes.{PlainPrefix, IsPrefix}
use Rattle.policy_base.specs.Policies.{PlainPolicy, PlainStatement, IsPolicyOf}
use Rattle.policy_base.specs.Governing.{is_origin, statement_of}
use Rattle.policy_base.specs.Permitted.{is_permitted, is_allowed, IsClaimedRouter}
use Rattle.config_base.specs.declared.route.Route.{Route}
use Rattle.config_base.specs.Configs.{PlainConfig}
use Rattle.config_base.specs.Lines.{own_route}
use Rattle.evidence_base.specs.Made.{PlainCaseEvidence}
use Rattle.evidence_law.specs.Passes.{Passes}
use Rattle.event_base.specs.declared.event.Event.{Event}
use Rattle.event_base.specs.World.{World}
use Rattle.event_law.specs.Laws.{world_after}

-- A statement governs the prefix. At this moment
pub record IsAllowedNow (net : PlainNet) (policy : PlainPolicy) (config : PlainConfig) (p : PlainPrefix) (s : PlainStatement) (w : World Route) : Type 0 where
  -- an origin holds its own route, if any,
  pub own : (r : ℕ) (h : Route) → IsTrue (is_origin net policy p r) → w.route r ≡ Some h → h ≡ own_route net config p r
  -- the path of what a claimed router holds is allowed,
  pub claimed : (r : ℕ) (h : Route) → IsClaimedRouter net policy p s r → w.route r ≡ Some h → IsTrue (is_allowed net policy p s h.path)
  -- the path of what any router but an origin holds is a suffix of a permitted walk,
  pub transit : (r : ℕ) (h : Route) → IsTrue (not (is_origin net policy p r)) → w.route r ≡ Some h → (above : List ℕ) × IsTrue (is_permitted net policy p s (above ++ h.path))
  -- the path of the route that a peer has last heard from a router is allowed, with the peer in front,
  pub heard : (r peer : ℕ) (m : Route) → IsTrue (is_router net r && is_peer net peer) → w.heard r peer ≡ Some m → IsTrue (is_allowed net policy p s (peer ∷ m.path))
  -- and so is that of each route which waits on its way to the peer.
  pub waiting : (r peer i : ℕ) (m : Route) → IsTrue (is_router net r && is_peer net peer) → slice_get (w.queue r peer) i ≡ Some (Some m) → IsTrue (is_allowed net policy p s (peer ∷ m.path))

-- No statement governs the prefix: only origins hold routes, their own, nobody has heard one from a router, and none waits on its way.
pub record IsBareNow (net : PlainNet) (policy : PlainPolicy) (config : PlainConfig) (p : PlainPrefix) (w : World Route) : Type 0 where
  pub routes : (r : ℕ) (h : Route) → w.route r ≡ Some h → IsTrue (is_origin net policy p r) × (h ≡ own_route net config p r)
  pub heard : (r x : ℕ) → IsTrue (is_router net r) → w.heard r x ≡ None
  pub waiting : (r x i : ℕ) (m : Route) → IsTrue (is_router net r) → slice_get (w.queue r x) i ≡ Some (Some m) → ⊥

abbrev pub IsRightNow : PlainNet → PlainPolicy → PlainConfig → PlainPrefix → World Route → Type 0
IsRightNow net policy config p w = by_statement (statement_of policy p)
  where
    by_statement : Option PlainStatement → Type 0
    by_statement None = IsBareNow net policy config p w
    by_statement (Some s) = IsAllowedNow net policy config p s w

-- For every prefix and after every list of events, also while messages wait.
abbrev pub IsRightAlways : PlainNet → PlainPolicy → PlainConfig → Type 0
IsRightAlways net policy config = (p : PlainPrefix) → IsPrefix p → (es : List Event) → IsRightNow net policy config p (world_after net policy config p es)

-- Where the evidence passes, so it is after every list of events.
abbrev pub EveryMomentIsRight : Type 0
EveryMomentIsRight =
    (net : PlainNet) (policy : PlainPolicy) (config : PlainConfig) (cs : List PlainCaseEvidence) → IsNet net → IsPolicyOf net policy
    → Passes net policy config cs → IsRightAlways net policy config
