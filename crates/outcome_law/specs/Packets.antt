-- Where packets for a prefix go while an outcome stands: each router sends them to the second place of the path of its route.
use Rattle.std.specs.Prelude.{◌≡◌, ◌⊎◌, ℕ, zero, suc, ◌≤◌, not, ◌&&◌, IsTrue, List, [], ◌∷◌, ◌++◌, length, Option, Some, None, option_and_then, slice_get}
use Rattle.std.specs.Option.{option_map_or}
use Rattle.net_base.specs.Network.{PlainNet, IsNet, is_peer, is_router}
use Rattle.net_base.specs.Prefixes.{PlainPrefix, IsPrefix}
use Rattle.policy_base.specs.Policies.{PlainPolicy, PlainStatement}
use Rattle.policy_base.specs.Governing.{is_origin, statement_of}
use Rattle.policy_base.specs.Permitted.{IsClaimedRouter}
use Rattle.policy_base.specs.Walks.{is_loop_free}
use Rattle.config_base.specs.declared.route.Route.{Route}
use Rattle.config_base.specs.Configs.{PlainConfig}
use Rattle.outcome_base.specs.Outcomes.{Failures, Outcome, is_dead, is_live, is_silent, route_at, IsStable, offered}
use Rattle.outcome_base.specs.Right.{IsGood, IsBest, NoneSurvives, IsRight}

-- the place to which a router sends packets for the prefix, if it sends them anywhere
abbrev pub next_hop : Outcome → ℕ → Option ℕ
next_hop outcome r = option_and_then (λ (h : Route). slice_get h.path 1) (route_at outcome r)

-- the places at which a packet at l is, one after the other, over no more than n hops
abbrev pub trail : Outcome → ℕ → ℕ → List ℕ
trail outcome zero l = l ∷ []
trail outcome (suc n) l = l ∷ option_map_or (λ z. trail outcome n z) (next_hop outcome l) []

-- A router that isn't an origin sends packets to z, over a live link; where z is a peer, its session isn't silent.
pub record IsHop (net : PlainNet) (policy : PlainPolicy) (f : Failures) (p : PlainPrefix) (outcome : Outcome) (r z : ℕ) : Type 0 where
  pub at_router : IsTrue (is_router net r && not (is_origin net policy p r))
  pub next : next_hop outcome r ≡ Some z
  pub live : IsTrue (is_live net f r z)
  pub heard : IsTrue (not (is_peer net z && is_silent f r z))

-- Each place of the path sends packets to the next one, and the last is an origin that is up.
abbrev pub IsCarried : PlainNet → PlainPolicy → Failures → PlainPrefix → Outcome → List ℕ → Type 0
IsCarried net policy f p outcome [] = ⊥
IsCarried net policy f p outcome (l ∷ []) = IsTrue (is_origin net policy p l && not (is_dead f l))
IsCarried net policy f p outcome (r ∷ z ∷ rest) = IsHop net policy f p outcome r z × IsCarried net policy f p outcome (z ∷ rest)

-- packets from r go along the path
pub record Follows (net : PlainNet) (policy : PlainPolicy) (f : Failures) (p : PlainPrefix) (outcome : Outcome) (r : ℕ) (path : List ℕ) : Type 0 where
  pub begins : (rest : List ℕ) × (path ≡ r ∷ rest)
  -- they are carried over it to an origin,
  pub carried : IsCarried net policy f p outcome path
  -- they go nowhere else, however many hops they may take,
  pub exact : (n : ℕ) → length path ≤ suc n → trail outcome n r ≡ path
  -- they come to no place twice,
  pub free : IsTrue (is_loop_free path)
  -- and each router on it holds what is left of it.
  pub rests : (front back : List ℕ) (u : ℕ) → path ≡ front ++ u ∷ back → IsTrue (is_router net u) → (g : Route) × (route_at outcome u ≡ Some g) × (g.path ≡ u ∷ back)

-- Whatever the configuration is, whatever fails, in every stable outcome packets from a router go along the path of its route.
abbrev pub PacketsFollowPaths : Type 0
PacketsFollowPaths = (net : PlainNet) (policy : PlainPolicy) (config : PlainConfig) → IsNet net
    → (p : PlainPrefix) (f : Failures) (outcome : Outcome) → length outcome ≡ length net.routers → IsStable net policy config f p outcome
    → (r : ℕ) (h : Route) → IsTrue (is_router net r) → route_at outcome r ≡ Some h → Follows net policy f p outcome r h.path

-- What a peer is offered over the session of a router is the peer, and then the path along which packets from the router go. The session is live, and the path comes to no place twice.
abbrev pub PeersFollowOffers : Type 0
PeersFollowOffers = (net : PlainNet) (policy : PlainPolicy) (config : PlainConfig) → IsNet net
    → (p : PlainPrefix) (f : Failures) (outcome : Outcome) → length outcome ≡ length net.routers → IsStable net policy config f p outcome
    → (r peer : ℕ) (path : List ℕ) → offered net policy config f p outcome r peer ≡ Some path
    → (rest : List ℕ) × (path ≡ peer ∷ rest) × IsTrue (is_live net f r peer) × IsTrue (is_loop_free path) × Follows net policy f p outcome r rest

-- Packets from r go along a path that is allowed, survives, and has the best rank of those; or r has no route, and none survives.
abbrev pub TakesBestPath : PlainNet → PlainPolicy → Failures → PlainPrefix → PlainStatement → Outcome → ℕ → Type 0
TakesBestPath net policy f p s outcome r =
    ((path : List ℕ) × Follows net policy f p outcome r path × IsGood net policy f p s path × IsBest net policy f p s (r ∷ []) path)
    ⊎ ((next_hop outcome r ≡ None) × NoneSurvives net policy f p s (r ∷ []))

-- For every prefix that a statement governs, all failures and every stable outcome, so it is for every router that the statement claims.
abbrev pub CarriesBestPaths : PlainNet → PlainPolicy → PlainConfig → Type 0
CarriesBestPaths net policy config =
    (p : PlainPrefix) (f : Failures) (outcome : Outcome) (s : PlainStatement) → IsPrefix p → statement_of policy p ≡ Some s
    → length outcome ≡ length net.routers → IsStable net policy config f p outcome
    → (r : ℕ) → IsClaimedRouter net policy p s r → TakesBestPath net policy f p s outcome r

-- Where the configuration is right.
abbrev pub PacketsTakeBestPaths : Type 0
PacketsTakeBestPaths = (net : PlainNet) (policy : PlainPolicy) (config : PlainConfig) → IsNet net → IsRight net policy config → CarriesBestPaths net policy config
