-- Counters of the nodes at each router.
use Rattle.std.specs.Prelude.{◌≡◌, ℕ, ◌+◌, ◌<◌, ◌^◌, List, length, slice_index}
use Rattle.graph_base.specs.declared.graph.Node.{Node}
use Rattle.tag_assign.specs.Tagging.{count_at}

-- each counter has the number of nodes at its location
abbrev pub HasCounts : List ℕ → List Node → Type 0
HasCounts counts nodes = (r : ℕ) → r < length counts → slice_index counts r ≡ count_at r nodes

-- each counter can count so many nodes more
abbrev pub HaveRoom : List ℕ → ℕ → Type 0
HaveRoom counts more = (r : ℕ) → r < length counts → slice_index counts r + more < 2 ^ 32
