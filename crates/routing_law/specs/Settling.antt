-- How an outcome is computed: the nodes that are reached, the best of them at each location, and rounds in which routers are settled.
use Rattle.std.specs.Prelude.{ℕ, zero, suc, ◌≡◌, ◌≤◌, ◌<◌, ◌==◌, nat_lt, Bool, true, false, ◌&&◌, ◌||◌, Option, Some, None, if◌then◌else◌}
use Rattle.std.specs.Option.{option_and_then, is_some}
use Rattle.routing_law.specs.Graph.{MeetsRules, WellFormed}
use Rattle.routing_law.specs.Network.{chooses}
use Rattle.routing_law.specs.Outcome.{FullyStable, ReachedAt, Route, Routes, Setup, heard, own_route}

abbrev pub Marks : Type 0
Marks = ℕ → Bool

-- what g marks below a bound, f does
abbrev pub Within : ℕ → Marks → Marks → Type 0
Within bound g f = (n : ℕ) → n < bound → g n ≡ true → f n ≡ true

-- some number below the bound is marked
abbrev pub any_below : Marks → ℕ → Bool
any_below f zero = false
any_below f (suc n) = f n || any_below f n

-- the marked number below a bound at which the measure is highest; the first of several
abbrev pub higher_of : (ℕ → ℕ) → ℕ → Option ℕ → Option ℕ
higher_of measure n None = Some n
higher_of measure n (Some i) = if nat_lt (measure i) (measure n) then Some n else Some i

abbrev pub highest : Marks → (ℕ → ℕ) → ℕ → Option ℕ
highest f measure zero = None
highest f measure (suc n) = if f n then higher_of measure n (highest f measure n) else highest f measure n

-- the one at which it is lowest
abbrev pub lower_of : (ℕ → ℕ) → ℕ → Option ℕ → Option ℕ
lower_of measure n None = Some n
lower_of measure n (Some i) = if nat_lt (measure n) (measure i) then Some n else Some i

abbrev pub lowest : Marks → (ℕ → ℕ) → ℕ → Option ℕ
lowest f measure zero = None
lowest f measure (suc n) = if f n then lower_of measure n (lowest f measure n) else lowest f measure n

abbrev pub is_node : Option ℕ → ℕ → Bool
is_node None n = false
is_node (Some m) n = m == n

-- m steps to n over what survives
abbrev pub steps_on : Setup → ℕ → ℕ → Bool
steps_on w m n = w.alive.live (w.graph.place n) && (w.alive.carries (w.graph.place m) (w.graph.place n) && is_node (w.graph.next m (w.graph.place n)) n)

-- the nodes that are reached by at most k steps
abbrev pub reached : Setup → ℕ → Marks
reached w zero n = w.alive.live (w.graph.place n) && is_node (w.graph.start (w.graph.place n)) n
reached w (suc k) n = reached w k n || any_below (λ m. reached w k m && steps_on w m n) w.graph.nodes

-- reached by then, at v
abbrev pub reached_at : Setup → ℕ → ℕ → Marks
reached_at w time v n = reached w time n && (w.graph.place n == v)

-- the best node of those
abbrev pub top_at : Setup → ℕ → ℕ → Option ℕ
top_at w time v = highest (reached_at w time v) w.graph.number w.graph.nodes

-- the node with the highest number of those that are reached at a location
pub record Tops (w : Setup) : Type 0 where
  pub top : ℕ → Option ℕ
  pub is_reached : (v n : ℕ) → top v ≡ Some n → ReachedAt w v n
  pub over : (v m : ℕ) → ReachedAt w v m → (n : ℕ) × (top v ≡ Some n) × (w.graph.number m ≤ w.graph.number n)

abbrev pub has_number : Setup → ℕ → Option Route → Bool
has_number w goal None = false
has_number w goal (Some x) = w.graph.number x.node == goal

-- the neighbours that give v the number
abbrev pub givers : Setup → Routes → ℕ → ℕ → Marks
givers w r v goal u = has_number w goal (heard w r v u)

-- what v is given by the first of them, where it has a best node
abbrev pub settled_by : Setup → Routes → ℕ → Option ℕ → Option Route
settled_by w r v None = None
settled_by w r v (Some n) = option_and_then (heard w r v) (lowest (givers w r v (w.graph.number n)) w.net.name w.net.size)

abbrev pub kept : Option Route → Option Route → Option Route
kept None o = o
kept (Some x) o = Some x

-- each router that is left and is given its best number is settled
abbrev pub rounds : Setup → (ℕ → Option ℕ) → ℕ → Routes
rounds w top zero v = if w.net.origin v then own_route w v else None
rounds w top (suc k) v = kept (rounds w top k v) (if chooses w.net w.alive v then settled_by w (rounds w top k) v (top v) else None)

-- a time at which nothing new is reached gives the best nodes
abbrev pub ReachEnds : Type 0
ReachEnds = (w : Setup) → WellFormed w.net w.graph → (time : ℕ) → Within w.graph.nodes (reached w (suc time)) (reached w time) → (t : Tops w) × ((v : ℕ) → t.top v ≡ top_at w time v)

-- a round after which nobody is settled is an outcome
abbrev pub SettlingEnds : Type 0
SettlingEnds =
    (w : Setup) → WellFormed w.net w.graph → MeetsRules w.net w.graph → (t : Tops w) (j : ℕ)
    → Within w.net.size (λ v. is_some (rounds w t.top (suc j) v)) (λ v. is_some (rounds w t.top j v)) → FullyStable w (rounds w t.top j)
