-- Graphs in which no two nodes stand at one location.
use Rattle.std.specs.Prelude.{◌≡◌, ℕ, ◌<◌, length}
use Rattle.graph_base.specs.Graphs.{PlainGraph}
use Rattle.graph_base.specs.Runs.{place_of}

abbrev pub StandApart : PlainGraph → Type 0
StandApart g = (m n : ℕ) → m < length g.nodes → n < length g.nodes → place_of g m ≡ place_of g n → m ≡ n
