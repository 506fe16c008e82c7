-- What locations hold as time goes on, where each router chooses now and then over what its neighbours held at some time before, one of
-- the first of it: by number and then by size, with ties broken in any way that is steady.
use Rattle.std.specs.Prelude.{ℕ, ◌≡◌, ◌≤◌, ◌<◌, ◌+◌, ◌*◌, suc, Bool, true, false, List, ◌∷◌, Option, Some, None}
use Rattle.routing_law.specs.Graph.{MeetsRules, WellFormed, run}
use Rattle.routing_law.specs.Network.{chooses, loop_free}
use Rattle.routing_law.specs.Outcome.{Route, Routes, Setup, heard, own_route}
use Rattle.tie_law.specs.Ties.{IsSize, NoneSooner, Size}

-- what each location holds at each time
abbrev pub History : Type 0
History = ℕ → Routes

-- From this time on origins hold their own routes, routers that choose hold paths of their own without a loop, which run to their
-- nodes, and others hold nothing.
pub record HoldsRuns (w : Setup) (held : History) (start : ℕ) : Type 0 where
  pub own : (t v : ℕ) → start ≤ t → w.net.origin v ≡ true → held t v ≡ own_route w v
  pub none : (t v : ℕ) → start ≤ t → w.net.origin v ≡ false → chooses w.net w.alive v ≡ false → held t v ≡ None
  pub runs : (t v : ℕ) (y : Route) → start ≤ t → chooses w.net w.alive v ≡ true → held t v ≡ Some y → (rest : List ℕ) × (y.path ≡ v ∷ rest) × (run w.graph y.path ≡ Some y.node) × (loop_free y.path ≡ true)

-- u gives v the route y where each location holds what o says, and nobody gives v one that comes sooner
abbrev pub TiesAt : Setup → Size → Routes → ℕ → ℕ → Route → Type 0
TiesAt w size o v u y = (heard w o v u ≡ Some y) × ((t : ℕ) (z : Route) → heard w o v t ≡ Some z → NoneSooner w size y z)

-- v may choose this then: one of those, or none where nobody gives it any
abbrev pub IsTop : Setup → Size → Routes → ℕ → Option Route → Type 0
IsTop w size o v None = (u : ℕ) → heard w o v u ≡ None
IsTop w size o v (Some y) = (u : ℕ) × TiesAt w size o v u y

-- a router is told that each location holds what it held at some time from `start` on, one at this time and another at that
abbrev pub IsToldOf : History → ℕ → Routes → Type 0
IsToldOf h start o = (u : ℕ) → (s : ℕ) × (start ≤ s) × (o u ≡ h s u)

-- From the time `end` on what each router holds is one of the first of something that it can be told so.
abbrev pub IsRound : Setup → Size → History → ℕ → ℕ → Type 0
IsRound w size h start end = (t v : ℕ) → end ≤ t → chooses w.net w.alive v ≡ true → (o : Routes) × IsToldOf h start o × IsTop w size o v (h t v)

-- of whatever v is told it is these neighbours whose routes tie,
abbrev pub AreTied : Setup → Size → History → ℕ → ℕ → (ℕ → Bool) → Type 0
AreTied w size h start v tied =
    (o : Routes) → IsToldOf h start o → (u : ℕ) → (tied u ≡ true → (y : Route) × TiesAt w size o v u y) × ((y : Route) → TiesAt w size o v u y → tied u ≡ true)

-- and from this time on they don't change what they hold
abbrev pub AreStill : History → ℕ → (ℕ → Bool) → Type 0
AreStill h since tied = (u : ℕ) → tied u ≡ true → (t : ℕ) → since ≤ t → h t u ≡ h since u

-- Where of all that a router can be told the same neighbours' routes tie, and since the start of the round these haven't changed what they
-- hold, the router stays from its end on with what it holds.
abbrev pub IsSteady : Setup → Size → History → ℕ → ℕ → Type 0
IsSteady w size h start end =
    (v : ℕ) (tied : ℕ → Bool) → chooses w.net w.alive v ≡ true → AreTied w size h start v tied → AreStill h start tied → (t : ℕ) → end ≤ t → h t v ≡ h end v

-- So many rounds are enough where there are so many routers: each of them settles after at most as many as the longest path has places, and one.
abbrev pub rounds_needed : ℕ → ℕ
rounds_needed routers = routers * (routers + 2)

-- Whatever is held at first, in whatever order and however late routers hear and choose, and however they break ties: after so many rounds each
-- location holds a route for good, and in what is held then no router is given one that comes sooner than its own. Routers have the lowest numbers.
abbrev pub TiesSettle : Type 0
TiesSettle = (w : Setup) (size : Size) (routers : ℕ) → ((v : ℕ) → w.net.router v ≡ true → v < routers) → IsSize w size → WellFormed w.net w.graph → MeetsRules w.net w.graph
    → (h : History) (time : ℕ → ℕ) → HoldsRuns w h (time 0) → ((k : ℕ) → time k ≤ time (suc k))
    → ((k : ℕ) → k ≤ rounds_needed routers → IsRound w size h (time k) (time (suc k)) × IsSteady w size h (time k) (time (suc k)))
    → (s : Routes) × ((t v : ℕ) → time (rounds_needed routers) ≤ t → h t v ≡ s v) × ((v : ℕ) → chooses w.net w.alive v ≡ true → IsTop w size s v (s v))
