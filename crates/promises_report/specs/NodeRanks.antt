-- The ranks that the nodes of a graph tell of the walks of routers, and of sessions.
use Rattle.std.specs.Prelude.{ℕ, Bool, false, ◌==◌, ◌&&◌, length, Option, Some, None}
use Rattle.std.specs.List.{list_any}
use Rattle.std.specs.Option.{option_map_or}
use Rattle.net_base.specs.Locations.{numbers_below}
use Rattle.graph_base.specs.Graphs.{PlainGraph}
use Rattle.graph_base.specs.Runs.{place_of, rank_at}

-- it is this rank
abbrev pub is_rank : ℕ → Option ℕ → Bool
is_rank n rank = option_map_or (λ m. m == n) rank false

-- a node at a router
abbrev pub tells_router : PlainGraph → ℕ → ℕ → ℕ → Bool
tells_router g r n q = place_of g q == r && is_rank n (rank_at g q)

-- a step from a router to a peer, at whose node the walks of the session begin
abbrev pub tells_session : PlainGraph → ℕ → ℕ → ℕ → ℕ × ℕ → Bool
tells_session g r peer n step = place_of g step.0 == r && place_of g step.1 == peer && is_rank n (rank_at g step.1)

-- a walk of the router, or of its session to a peer, has the rank
abbrev pub has_rank_in : PlainGraph → ℕ → Option ℕ → ℕ → Bool
has_rank_in g r None n = list_any (tells_router g r n) (numbers_below (length g.nodes))
has_rank_in g r (Some peer) n = list_any (tells_session g r peer n) g.steps
