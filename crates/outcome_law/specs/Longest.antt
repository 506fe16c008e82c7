-- Which way a packet goes where several prefixes cover its address: each router sends it by the longest one for which it holds a route.
use Rattle.std.specs.Prelude.{◌≡◌, ℕ, ◌<◌, ◌≤◌, ◌^◌, Bool, not, ◌&&◌, IsTrue, List, [], ◌∷◌, length, Some}
use Rattle.list_law.specs.Members.{IsIn}
use Rattle.net_base.specs.Network.{PlainNet, IsNet, is_peer, is_router}
use Rattle.net_base.specs.Prefixes.{PlainPrefix, IsPrefix, is_inside}
use Rattle.policy_base.specs.Policies.{PlainPolicy}
use Rattle.policy_base.specs.Governing.{is_origin}
use Rattle.policy_base.specs.Walks.{is_loop_free}
use Rattle.config_base.specs.declared.route.Route.{Route}
use Rattle.config_base.specs.Configs.{PlainConfig}
use Rattle.outcome_base.specs.Outcomes.{Failures, Outcome, IsStable, is_live, is_silent, route_at}

-- an outcome for each prefix
abbrev pub Outcomes : Type 0
Outcomes = PlainPrefix → Outcome

-- Each is stable, under failures of its own: a peer may be silent about one prefix and not about another.
abbrev pub AreStable : PlainNet → PlainPolicy → PlainConfig → (PlainPrefix → Failures) → Outcomes → Type 0
AreStable net policy config fs os = (p : PlainPrefix) → IsPrefix p → (length (os p) ≡ length net.routers) × IsStable net policy config (fs p) p (os p)

abbrev pub covers : PlainPrefix → ℕ → Bool
covers p a = is_inside p (record { bits = a; len = 32 })

-- Of the prefixes that cover the address, and for which r holds a route, p is the longest; and this is the path of its route.
pub record IsLongest (os : Outcomes) (a r : ℕ) (p : PlainPrefix) (path : List ℕ) : Type 0 where
  pub prefix : IsPrefix p
  pub covering : IsTrue (covers p a)
  pub held : (h : Route) × (route_at (os p) r ≡ Some h) × (h.path ≡ path)
  pub most : (q : PlainPrefix) (h : Route) → IsPrefix q → IsTrue (covers q a) → route_at (os q) r ≡ Some h → q.len ≤ p.len

-- A packet for the address at r passes these places, each by the longest prefix there, over live links, and comes to an origin of a
-- prefix that covers it: to a router, or over a session that isn't silent to a peer.
pub data Arrives (net : PlainNet) (policy : PlainPolicy) (fs : PlainPrefix → Failures) (os : Outcomes) (a : ℕ) : ℕ → List ℕ → Type 0 where
  here : {r : ℕ} {p : PlainPrefix} {path : List ℕ} → IsLongest os a r p path → IsTrue (is_origin net policy p r) → Arrives net policy fs os a r (r ∷ [])
  out : {r peer : ℕ} {p : PlainPrefix} → IsLongest os a r p (r ∷ peer ∷ []) → IsTrue (is_live net (fs p) r peer)
      → IsTrue (is_peer net peer && is_origin net policy p peer && not (is_silent (fs p) r peer)) → Arrives net policy fs os a r (r ∷ peer ∷ [])
  on : {r z : ℕ} {p : PlainPrefix} {rest trail : List ℕ} → IsLongest os a r p (r ∷ z ∷ rest) → IsTrue (is_live net (fs p) r z)
      → IsTrue (is_router net z) → Arrives net policy fs os a z trail → Arrives net policy fs os a r (r ∷ trail)

-- It arrives this way, and no other, and comes to no place twice.
pub record GoesAlong (net : PlainNet) (policy : PlainPolicy) (fs : PlainPrefix → Failures) (os : Outcomes) (a r : ℕ) (trail : List ℕ) : Type 0 where
  pub arrives : Arrives net policy fs os a r trail
  pub only : (other : List ℕ) → Arrives net policy fs os a r other → other ≡ trail
  pub free : IsTrue (is_loop_free trail)

-- no router on the path holds a route for a longer prefix that covers the address
abbrev pub NoneIsLonger : PlainNet → Outcomes → ℕ → PlainPrefix → List ℕ → Type 0
NoneIsLonger net os a p path =
    (u : ℕ) (q : PlainPrefix) (h : Route) → IsIn path u → IsTrue (is_router net u) → IsPrefix q → IsTrue (covers q a) → route_at (os q) u ≡ Some h → q.len ≤ p.len

-- Every packet for which its router holds some prefix that covers its address arrives. And where nobody on the path of the longest one
-- holds a longer one, it goes exactly along this path.
abbrev pub CarriesPackets : PlainNet → PlainPolicy → PlainConfig → Type 0
CarriesPackets net policy config =
    (fs : PlainPrefix → Failures) (os : Outcomes) (a : ℕ) → AreStable net policy config fs os → a < 2 ^ 32
    → (r : ℕ) (p : PlainPrefix) (path : List ℕ) → IsTrue (is_router net r) → IsLongest os a r p path
    → ((trail : List ℕ) × GoesAlong net policy fs os a r trail) × (NoneIsLonger net os a p path → GoesAlong net policy fs os a r path)

-- So it is of every configuration.
abbrev pub PacketsArrive : Type 0
PacketsArrive = (net : PlainNet) (policy : PlainPolicy) (config : PlainConfig) → IsNet net → CarriesPackets net policy config
