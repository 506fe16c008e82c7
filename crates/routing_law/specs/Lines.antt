-- What the lines of a configuration make of routes for one prefix, and the outcomes in which no router would choose again. No graph is named here.
use Rattle.std.specs.Prelude.{ℕ, ◌≡◌, ◌≤◌, Bool, true, false, ◌&&◌, List, [], ◌∷◌, length, Option, Some, None, if◌then◌else◌}
use Rattle.std.specs.Option.{option_map, option_and_then}
use Rattle.routing_law.specs.Network.{Alive, Network, chooses, giver, stands_on}

-- the last two numbers of a large community (RFC 8092)
abbrev pub Tag : Type 0
Tag = ℕ × ℕ

-- a route: its path begins with its holder
pub record LineRoute : Type 0 where
  pub path : List ℕ
  pub tag : Tag
  pub pref : ℕ

-- what each location holds
abbrev pub LineRoutes : Type 0
LineRoutes = ℕ → Option LineRoute

-- what the lines say for one prefix
pub record Lines : Type 0 where
  -- the tag of an origin's own route
  pub own : ℕ → Tag
  -- from, to, tag
  pub exported : ℕ → ℕ → Tag → Bool
  -- at, from a router, tag: the new tag and the preference
  pub imported : ℕ → ℕ → Tag → Option (Tag × ℕ)
  -- at, from a peer: the same
  pub from_peer : ℕ → ℕ → Option (Tag × ℕ)

-- an origin's own route
abbrev pub own_line : Lines → ℕ → LineRoute
own_line c v = record { path = v ∷ []; tag = c.own v; pref = 0 }

-- the path with its new holder in front, under the tag and the preference of a line
abbrev pub taken_by : ℕ → List ℕ → Tag × ℕ → LineRoute
taken_by v p q = record { path = v ∷ p; tag = q.0; pref = q.1 }

-- what v makes of a route of the router u
abbrev pub line_extended : Lines → ℕ → ℕ → LineRoute → Option LineRoute
line_extended c v u x = if stands_on v x.path then None else if c.exported u v x.tag then option_map (taken_by v x.path) (c.imported v u x.tag) else None

-- what v makes of the announcement of the peer u
abbrev pub line_announced : Network → Alive → Lines → ℕ → ℕ → Option LineRoute
line_announced net alive c v u = if net.origin u && alive.live u then option_map (taken_by v (u ∷ [])) (c.from_peer v u) else None

-- what v is given by u
abbrev pub line_heard : Network → Alive → Lines → LineRoutes → ℕ → ℕ → Option LineRoute
line_heard net alive c r v u = if alive.carries u v then (if net.router u then option_and_then (line_extended c v u) (r u) else line_announced net alive c v u) else None

-- A stable outcome: each router holds a best of what it is given, and none only where it is given none. Ties are free.
pub record LinesStable (net : Network) (alive : Alive) (c : Lines) (r : LineRoutes) : Type 0 where
  pub dead : (v : ℕ) → net.router v ≡ true → alive.live v ≡ false → r v ≡ None
  pub own : (v : ℕ) → net.router v ≡ true → net.origin v ≡ true → alive.live v ≡ true → r v ≡ Some (own_line c v)
  pub given : (v : ℕ) (x : LineRoute) → chooses net alive v ≡ true → r v ≡ Some x → (u : ℕ) × (line_heard net alive c r v u ≡ Some x)
  pub best : (v u : ℕ) (y : LineRoute) → chooses net alive v ≡ true → line_heard net alive c r v u ≡ Some y → (x : LineRoute) × (r v ≡ Some x) × (y.pref ≤ x.pref)

-- x comes no later than y: a higher preference first, then fewer locations, then the lower identifier of the neighbour
pub record LinesNoLater (net : Network) (x y : LineRoute) : Type 0 where
  pub higher : y.pref ≤ x.pref
  pub fewer : y.pref ≡ x.pref → length x.path ≤ length y.path
  pub lower : y.pref ≡ x.pref → length x.path ≡ length y.path → net.name (giver x.path) ≤ net.name (giver y.path)

-- a stable outcome in which ties are broken by the full order
pub record LinesFullyStable (net : Network) (alive : Alive) (c : Lines) (r : LineRoutes) : Type 0 where
  pub stable : LinesStable net alive c r
  pub first : (v u : ℕ) (x y : LineRoute) → chooses net alive v ≡ true → r v ≡ Some x → line_heard net alive c r v u ≡ Some y → LinesNoLater net x y

abbrev pub offered_of : Lines → ℕ → ℕ → LineRoute → Option (List ℕ)
offered_of c u p x = if c.exported u p x.tag then (if stands_on p x.path then None else Some (p ∷ x.path)) else None

-- what u offers to the peer p: the path of its route with the peer in front, where an export line permits it and the peer isn't on it
abbrev pub offered : Alive → Lines → LineRoutes → ℕ → ℕ → Option (List ℕ)
offered alive c r u p = if alive.carries u p then option_and_then (offered_of c u p) (r u) else None
