-- That the graph of a plan has too many steps.
use Rattle.std.specs.Prelude.{ℕ, ◌<◌, ◌≤◌, length}
use Rattle.net_base.specs.Network.{PlainNet}
use Rattle.path_exprs.specs.Standings.{Plan}
use Rattle.graph_base.specs.Graphs.{PlainGraph}
use Rattle.walk_states.specs.Built.{IsBuilt}

-- the graph that is built has no more nodes than this, but more steps
abbrev pub PassesSteps : PlainNet → Plan → ℕ → ℕ → Type 0
PassesSteps net plan most room = (g : PlainGraph) × IsBuilt net plan g × (length g.nodes ≤ most) × (room < length g.steps)
