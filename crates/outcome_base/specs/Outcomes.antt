-- Failures, and the outcomes in which no router would choose again.
use Rattle.std.specs.Prelude.{◌≡◌, ℕ, ◌≤◌, Bool, true, not, ◌&&◌, ◌==◌, IsTrue, List, [], ◌∷◌, Option, Some, None, option_and_then, slice_get, if◌then◌else◌}
use Rattle.std.specs.List.{list_any}
use Rattle.net_base.specs.declared.numbers.Tag.{Tag}
use Rattle.net_base.specs.Network.{PlainNet, is_peer, is_router, linked, joins}
use Rattle.net_base.specs.Numbers.{no_tag}
use Rattle.net_base.specs.Prefixes.{PlainPrefix}
use Rattle.policy_base.specs.Policies.{PlainPolicy}
use Rattle.policy_base.specs.Governing.{is_origin}
use Rattle.config_base.specs.declared.route.Route.{Route}
use Rattle.config_base.specs.Configs.{PlainConfig}
use Rattle.config_base.specs.Lines.{class_of, export_of, import_of, own_route}

-- what is dead, and which sessions of peers are silent, the router first
pub record Failures : Type 0 where
  pub dead : List ℕ
  pub dead_links : List (ℕ × ℕ)
  pub silent : List (ℕ × ℕ)

-- nothing has failed
abbrev pub no_failures : Failures
no_failures = record { dead = []; dead_links = []; silent = [] }

-- one optional route per router
abbrev pub Outcome : Type 0
Outcome = List (Option Route)

abbrev pub is_dead : Failures → ℕ → Bool
is_dead f l = list_any (λ d. d == l) f.dead

abbrev pub is_dead_link : Failures → ℕ → ℕ → Bool
is_dead_link f a b = list_any (joins a b) f.dead_links

abbrev pub is_silent : Failures → ℕ → ℕ → Bool
is_silent f router peer = list_any (λ s. s.0 == router && s.1 == peer) f.silent

-- both ends and the link between them live
abbrev pub is_live : PlainNet → Failures → ℕ → ℕ → Bool
is_live net f a b = linked net a b && not (is_dead_link f a b) && not (is_dead f a) && not (is_dead f b)

-- no location and no link of the path is dead
abbrev pub passes_live : Failures → List ℕ → Bool
passes_live f [] = true
passes_live f (l ∷ []) = not (is_dead f l)
passes_live f (l ∷ k ∷ ls) = not (is_dead f l) && not (is_dead_link f l k) && passes_live f (k ∷ ls)

-- where the last place is a peer, its session isn't silent
abbrev pub ends_heard : PlainNet → Failures → List ℕ → Bool
ends_heard net f [] = true
ends_heard net f (l ∷ []) = true
ends_heard net f (r ∷ p ∷ []) = not (is_peer net p && is_silent f r p)
ends_heard net f (l ∷ k ∷ j ∷ ls) = ends_heard net f (k ∷ j ∷ ls)

abbrev pub survives : PlainNet → Failures → List ℕ → Bool
survives net f path = passes_live f path && ends_heard net f path

abbrev pub route_at : Outcome → ℕ → Option Route
route_at outcome r = option_and_then (λ o. o) (slice_get outcome r)

-- what a neighbour sends over a live session: the path that begins with it and the tag
-- RFC 4271, section 9.1.3: a speaker advertises the route of its Loc-RIB; section 5.1.2: with its own number in front of AS_PATH.
abbrev pub sent : PlainNet → PlainPolicy → PlainConfig → Failures → PlainPrefix → Outcome → ℕ → ℕ → Option (List ℕ × Tag)
sent net policy config f p outcome from to =
    if is_peer net from
    then (if is_origin net policy p from && not (is_silent f to from) then Some (from ∷ [], no_tag) else None)
    else option_and_then (λ class. option_and_then (λ (h : Route). tagged h (export_of net config class from to h.tag)) (route_at outcome from)) (class_of config p)
  where
    tagged : Route → Option Tag → Option (List ℕ × Tag)
    tagged h None = None
    tagged h (Some tag) = Some (h.path, tag)

-- the route that a neighbour gives a router, if it gives one
-- RFC 4271, section 9.1.1: the local policy of the router that receives a route gives it a LOCAL_PREF, or makes it ineligible.
abbrev pub given : PlainNet → PlainPolicy → PlainConfig → Failures → PlainPrefix → Outcome → ℕ → ℕ → Option Route
given net policy config f p outcome from to =
    if is_live net f from to
    then option_and_then (λ class. option_and_then (λ (s : List ℕ × Tag). held s (import_of net config class to from s.0 s.1)) (sent net policy config f p outcome from to)) (class_of config p)
    else None
  where
    held : List ℕ × Tag → Option (Tag × ℕ) → Option Route
    held s None = None
    held s (Some line) = Some (record { path = to ∷ s.0; tag = line.0; pref = line.1 })

-- A router's choice: among what it's given, with no higher preference given, and none only where nothing is.
-- RFC 4271, section 9.1.2: the route with the highest degree of preference; what section 9.1.2.2 breaks ties by is left open.
pub record Chooses (net : PlainNet) (policy : PlainPolicy) (config : PlainConfig) (f : Failures) (p : PlainPrefix) (outcome : Outcome) (r : ℕ) : Type 0 where
  pub given_by : (h : Route) → route_at outcome r ≡ Some h → (z : ℕ) × (given net policy config f p outcome z r ≡ Some h)
  pub best : (z : ℕ) (g : Route) → given net policy config f p outcome z r ≡ Some g → (h : Route) × (route_at outcome r ≡ Some h) × (g.pref ≤ h.pref)

-- No router would choose again. Ties are free.
-- RFC 4271, section 9.1: the decision process has nothing to do at any router. A route of one's own isn't chosen among others.
pub record IsStable (net : PlainNet) (policy : PlainPolicy) (config : PlainConfig) (f : Failures) (p : PlainPrefix) (outcome : Outcome) : Type 0 where
  pub dead : (r : ℕ) → IsTrue (is_dead f r) → route_at outcome r ≡ None
  pub own : (r : ℕ) → IsTrue (is_router net r && is_origin net policy p r && not (is_dead f r)) → route_at outcome r ≡ Some (own_route net config p r)
  pub chooses : (r : ℕ) → IsTrue (is_router net r && not (is_origin net policy p r) && not (is_dead f r)) → Chooses net policy config f p outcome r

-- the path that a peer is offered over the session of a router
-- RFC 4271, section 9.1.2: a peer excludes a route whose AS_PATH has its own number, so such a one isn't offered to it.
abbrev pub offered : PlainNet → PlainPolicy → PlainConfig → Failures → PlainPrefix → Outcome → ℕ → ℕ → Option (List ℕ)
offered net policy config f p outcome r peer =
    if is_live net f r peer && is_router net r && is_peer net peer
    then option_and_then (λ (s : List ℕ × Tag). unlooped s.0) (sent net policy config f p outcome r peer)
    else None
  where
    unlooped : List ℕ → Option (List ℕ)
    unlooped path = if list_any (λ l. l == peer) path then None else Some (peer ∷ path)
