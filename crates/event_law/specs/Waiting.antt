-- What each route is that a router holds or that is on its way, after any events.
use Rattle.std.specs.Prelude.{◌≡◌, ℕ, suc, false, ◌&&◌, IsTrue, List, [], ◌∷◌, Some, None, slice_get}
use Rattle.net_base.specs.Network.{PlainNet, IsNet, is_peer, is_router}
use Rattle.net_base.specs.Prefixes.{PlainPrefix, IsPrefix}
use Rattle.policy_base.specs.Policies.{PlainPolicy, PlainStatement, IsPolicyOf}
use Rattle.policy_base.specs.Governing.{is_origin, statement_of}
use Rattle.policy_base.specs.Permitted.{is_allowed}
use Rattle.policy_base.specs.Walks.{is_loop_free}
use Rattle.graph_base.specs.Runs as graph
use Rattle.graph_base.specs.Runs.{step_at}
use Rattle.config_base.specs.declared.route.Route.{Route}
use Rattle.config_base.specs.Configs.{PlainConfig}
use Rattle.config_base.specs.Lines.{class_of, own_route}
use Rattle.evidence_base.specs.Made.{PlainCaseEvidence, number_at, tag_at}
use Rattle.evidence_law.specs.Passes.{Passes}
use Rattle.event_base.specs.declared.event.Event.{Event}
use Rattle.event_law.specs.Kinds.{AreKinds}
use Rattle.event_base.specs.Steps.{opening, run}
use Rattle.event_base.specs.Speaking.{speakers_of}

-- a path without a loop that begins with r and has a run to n
pub record HasRun (c : PlainCaseEvidence) (r : ℕ) (path : List ℕ) (n : ℕ) : Type 0 where
  pub rest : List ℕ
  pub begins : path ≡ r ∷ rest
  pub free : IsTrue (is_loop_free path)
  pub runs : graph.run c.graph path ≡ Some n

-- A router holds its own route where it's an origin, or else one that has a run, with the tag and the number of its node.
pub record IsHeld (net : PlainNet) (policy : PlainPolicy) (config : PlainConfig) (p : PlainPrefix) (c : PlainCaseEvidence) (r : ℕ) (h : Route) : Type 0 where
  pub own : IsTrue (is_origin net policy p r) → h ≡ own_route net config p r
  pub other : is_origin net policy p r ≡ false → (n : ℕ) × HasRun c r h.path n × (h.tag ≡ tag_at c n) × (h.pref ≡ number_at c n)

-- A route on its way from a to b:
pub record IsOnItsWay (net : PlainNet) (policy : PlainPolicy) (p : PlainPrefix) (s : PlainStatement) (c : PlainCaseEvidence) (a b : ℕ) (m : Route) : Type 0 where
  -- a router's has a run to a node that steps to b, whose tag it has where b is a router;
  pub router : IsTrue (is_router net a) → (n z : ℕ) × HasRun c a m.path n × (step_at c.graph n b ≡ Some z) × (IsTrue (is_router net b) → m.tag ≡ tag_at c n)
  -- with a peer in front that hears it, it's allowed;
  pub allowed : IsTrue (is_router net a && is_peer net b) → IsTrue (is_allowed net policy p s (b ∷ m.path))
  -- a peer's is the path of itself, and it's an origin.
  pub peer : is_router net a ≡ false → IsTrue (is_origin net policy p a) × (m.path ≡ a ∷ [])

-- After every list of events, whatever else has happened.
abbrev pub HeldAndWaitingRoutesRun : Type 0
HeldAndWaitingRoutesRun = (net : PlainNet) (policy : PlainPolicy) (config : PlainConfig) (cs : List PlainCaseEvidence) → IsNet net → IsPolicyOf net policy → Passes net policy config cs
    → (p : PlainPrefix) (s : PlainStatement) (k : ℕ) (c : PlainCaseEvidence) → IsPrefix p → statement_of policy p ≡ Some s → class_of config p ≡ Some (suc k) → slice_get cs k ≡ Some c
    → (es : List Event) → AreKinds (IsHeld net policy config p c) (IsOnItsWay net policy p s c) (run (speakers_of net policy config p) es (opening (speakers_of net policy config p)))

-- Without a class no router sends anything, and only origins hold a route.
abbrev pub OriginsAloneHoldRoutes : Type 0
OriginsAloneHoldRoutes = (net : PlainNet) (policy : PlainPolicy) (config : PlainConfig) (p : PlainPrefix) → class_of config p ≡ None
    → (es : List Event) → AreKinds (λ r h. IsTrue (is_origin net policy p r) × (h ≡ own_route net config p r)) (λ a b m. (is_router net a ≡ false) × IsTrue (is_origin net policy p a))
    (run (speakers_of net policy config p) es (opening (speakers_of net policy config p)))
