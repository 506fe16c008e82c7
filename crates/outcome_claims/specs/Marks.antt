-- Marks of links.
use Rattle.std.specs.Prelude.{◌≡◌, ℕ, ◌<◌, ◌==◌, Bool, false, List, length, map, filter}
use lib.ListN.{get_or}
use Rattle.std.specs.List.{list_any, position}
use Rattle.std.specs.Option.{option_map_or}
use Rattle.net_base.specs.Network.{PlainNet, joins}
use Rattle.graph_base.specs.Graphs.{PlainGraph}
use Rattle.graph_base.specs.Runs.{is_listener, place_of}

-- the link of a pair of locations, either first, stands at this place
abbrev pub is_at : PlainNet → ℕ → ℕ × ℕ → Bool
is_at net i pair = option_map_or (λ k. k == i) (position (joins pair.0 pair.1) net.links) false

-- a mark for each link: whether it is that of one of the pairs
pub record AreMarks (net : PlainNet) (pairs : List (ℕ × ℕ)) (marks : List Bool) : Type 0 where
  pub size : length marks ≡ length net.links
  pub at : (i : ℕ) → i < length net.links → get_or marks i false ≡ list_any (is_at net i) pairs

-- the ends of the steps into nodes that hear
abbrev pub heard_pairs : PlainGraph → List (ℕ × ℕ)
heard_pairs g = map (λ (s : ℕ × ℕ). (place_of g s.0, place_of g s.1)) (filter (λ (s : ℕ × ℕ). is_listener g s.1) g.steps)
