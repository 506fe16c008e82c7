-- Outcomes where peers announce what they like: to each router any AS path behind their own number, with any tag, of any prefix.
use Rattle.std.specs.Prelude.{◌≡◌, ℕ, ◌≤◌, Bool, true, not, ◌&&◌, ◌==◌, IsTrue, List, [], ◌∷◌, ◌++◌, map, filter, Option, Some, None, option_map, option_and_then, slice_get, if◌then◌else◌}
use Rattle.std.specs.List.{list_any}
use Rattle.net_base.specs.declared.net.Site.{Site}
use Rattle.net_base.specs.declared.numbers.Tag.{Tag}
use Rattle.net_base.specs.Network.{PlainNet, is_peer, is_router, asn_of}
use Rattle.net_base.specs.Prefixes.{PlainPrefix}
use Rattle.policy_base.specs.Policies.{PlainPolicy}
use Rattle.policy_base.specs.Governing.{is_origin}
use Rattle.config_base.specs.declared.route.Route.{Route}
use Rattle.config_base.specs.Configs.{PlainConfig}
use Rattle.config_base.specs.Lines.{class_of, block_at, export_of, line_by, as_path, own_route}
use Rattle.outcome_base.specs.Outcomes.{Failures, Outcome, is_dead, is_silent, is_live}

-- an announcement of a peer: the AS numbers behind its own, and a tag
pub record Announced : Type 0 where
  pub behind : List ℕ
  pub tag : Tag

-- what each peer announces to each router, if it announces anything
abbrev pub Announcements : Type 0
Announcements = ℕ → ℕ → Option Announced

-- a router's route with its whole AS path: first the path within the network, to an origin or a peer, and behind it the AS numbers that the peer announced
pub record FullRoute : Type 0 where
  pub route : Route
  pub behind : List ℕ

-- one optional route per router
abbrev pub FullOutcome : Type 0
FullOutcome = List (Option FullRoute)

abbrev pub full_at : FullOutcome → ℕ → Option FullRoute
full_at full r = option_and_then (λ o. o) (slice_get full r)

-- the outcome as far as the paths lead within the network
abbrev pub inside : FullOutcome → Outcome
inside full = map (option_map (λ (t : FullRoute). t.route)) full

-- a router of the network has the AS number
abbrev pub is_ours : PlainNet → ℕ → Bool
is_ours net n = list_any (λ (r : Site). r.asn == n) net.routers

-- The loop rule over a whole AS path: from a peer it's refused for the number of any router, from a router for the importer's own.
abbrev pub refuses : PlainNet → ℕ → ℕ → List ℕ → Bool
refuses net at from numbers = if is_peer net from then list_any (is_ours net) numbers else list_any (λ n. n == asn_of net at) numbers

-- what a neighbour sends: the path that begins with it, the AS numbers behind that, and the tag
pub record Sent : Type 0 where
  pub path : List ℕ
  pub behind : List ℕ
  pub tag : Tag

-- A peer sends what it announces, whether it's an origin or not, unless its session is silent; a router what its export lines permit of its route.
abbrev pub sent_under : PlainNet → PlainConfig → Failures → Announcements → PlainPrefix → FullOutcome → ℕ → ℕ → Option Sent
sent_under net config f says p full from to =
    if is_peer net from
    then (if is_silent f to from then None else option_map (λ (a : Announced). record { path = from ∷ []; behind = a.behind; tag = a.tag }) (says from to))
    else option_and_then (λ class. option_and_then (λ (t : FullRoute). tagged t (export_of net config class from to t.route.tag)) (full_at full from)) (class_of config p)
  where
    tagged : FullRoute → Option Tag → Option Sent
    tagged t None = None
    tagged t (Some tag) = Some (record { path = t.route.path; behind = t.behind; tag = tag })

-- what a router makes of it: nothing by the loop rule, or else what the import line says that applies
abbrev pub taken_under : PlainNet → PlainConfig → ℕ → ℕ → ℕ → Sent → Option FullRoute
taken_under net config class to from m =
    if refuses net to from (as_path net m.path ++ m.behind) then None else held (option_and_then (line_by net class from m.tag) (block_at net config to from))
  where
    held : Option (Tag × ℕ) → Option FullRoute
    held None = None
    held (Some line) = Some (record { route = record { path = to ∷ m.path; tag = line.0; pref = line.1 }; behind = m.behind })

-- the route that a neighbour gives a router over a live link, if it gives one
abbrev pub given_under : PlainNet → PlainConfig → Failures → Announcements → PlainPrefix → FullOutcome → ℕ → ℕ → Option FullRoute
given_under net config f says p full from to =
    if is_live net f from to
    then option_and_then (λ class. option_and_then (taken_under net config class to from) (sent_under net config f says p full from to)) (class_of config p)
    else None

-- What a peer takes of what a router sends it over a live link: it refuses its own number on the whole AS path.
abbrev pub offered_under : PlainNet → PlainConfig → Failures → Announcements → PlainPrefix → FullOutcome → ℕ → ℕ → Option Sent
offered_under net config f says p full r peer =
    if is_live net f r peer && is_router net r && is_peer net peer
    then option_and_then unlooped (sent_under net config f says p full r peer)
    else None
  where
    unlooped : Sent → Option Sent
    unlooped m = if list_any (λ n. n == asn_of net peer) (as_path net m.path ++ m.behind) then None else Some m

-- A router's choice: among what it's given, with no higher preference given, and none only where nothing is.
pub record ChoosesUnder (net : PlainNet) (config : PlainConfig) (f : Failures) (says : Announcements) (p : PlainPrefix) (full : FullOutcome) (r : ℕ) : Type 0 where
  pub given_by : (t : FullRoute) → full_at full r ≡ Some t → (z : ℕ) × (given_under net config f says p full z r ≡ Some t)
  pub best : (z : ℕ) (g : FullRoute) → given_under net config f says p full z r ≡ Some g → (t : FullRoute) × (full_at full r ≡ Some t) × (g.route.pref ≤ t.route.pref)

-- No router would choose again while the peers announce this. Ties are free.
pub record IsStableUnder (net : PlainNet) (policy : PlainPolicy) (config : PlainConfig) (f : Failures) (says : Announcements) (p : PlainPrefix) (full : FullOutcome) : Type 0 where
  pub dead : (r : ℕ) → IsTrue (is_dead f r) → full_at full r ≡ None
  pub own : (r : ℕ) → IsTrue (is_router net r && is_origin net policy p r && not (is_dead f r)) → full_at full r ≡ Some (record { route = own_route net config p r; behind = [] })
  pub chooses : (r : ℕ) → IsTrue (is_router net r && not (is_origin net policy p r) && not (is_dead f r)) → ChoosesUnder net config f says p full r

-- ---- the sessions over which nothing of use comes

-- nothing is announced, or a number of a router stands on the path
abbrev pub is_unusable : PlainNet → Option Announced → Bool
is_unusable net None = true
is_unusable net (Some a) = list_any (is_ours net) a.behind

-- These failures, and silent besides each session over which the peer announces nothing of use.
abbrev pub silenced : PlainNet → Announcements → Failures → Failures
silenced net says f = record {
  dead = f.dead;
  dead_links = f.dead_links;
  silent = f.silent ++ filter (λ (s : ℕ × ℕ). is_unusable net (says s.1 s.0)) net.links;
}
