-- Where the nodes of a graph stand, and how a path is followed in it.
use Rattle.std.specs.Prelude.{◌≡◌, ℕ, Bool, false, ◌&&◌, ◌==◌, IsTrue, List, [], ◌∷◌, Option, None, option_map, option_and_then, unwrap_or, slice_get}
use Rattle.std.specs.List.{list_any, find}
use Rattle.graph_base.specs.declared.graph.Node.{Node}
use Rattle.graph_base.specs.Graphs.{PlainGraph}

-- the location of a node; what isn't a node has none, and 0 stands for it
abbrev pub place_of : PlainGraph → ℕ → ℕ
place_of g n = unwrap_or (option_map (λ (node : Node). node.loc) (slice_get g.nodes n)) 0

abbrev pub is_listener : PlainGraph → ℕ → Bool
is_listener g n = unwrap_or (option_map (λ (node : Node). node.listener) (slice_get g.nodes n)) false

abbrev pub rank_at : PlainGraph → ℕ → Option ℕ
rank_at g n = option_and_then (λ (node : Node). node.rank) (slice_get g.nodes n)

abbrev pub is_start : PlainGraph → ℕ → Bool
is_start g n = list_any (λ s. s == n) g.starts

abbrev pub has_step : PlainGraph → ℕ → ℕ → Bool
has_step g m n = list_any (λ (s : ℕ × ℕ). s.0 == m && s.1 == n) g.steps

-- the start at a location
abbrev pub start_at : PlainGraph → ℕ → Option ℕ
start_at g l = find (λ n. place_of g n == l) g.starts

-- the node to which a node steps at a location
abbrev pub step_at : PlainGraph → ℕ → ℕ → Option ℕ
step_at g n l = option_map (λ (s : ℕ × ℕ). s.1) (find (λ (s : ℕ × ℕ). s.0 == n && place_of g s.1 == l) g.steps)

-- the node in which the run along a path ends: from its last place to its first, from a start by steps
abbrev pub run : PlainGraph → List ℕ → Option ℕ
run g [] = None
run g (l ∷ []) = start_at g l
run g (l ∷ k ∷ ls) = option_and_then (λ n. step_at g n l) (run g (k ∷ ls))

-- steps lead from a through these nodes, of which the last is b
abbrev pub IsTrail : PlainGraph → ℕ → List ℕ → ℕ → Type 0
IsTrail g a [] b = a ≡ b
IsTrail g a (c ∷ cs) b = IsTrue (has_step g a c) × IsTrail g c cs b

-- some steps lead from a to b; a node reaches itself
abbrev pub Reaches : PlainGraph → ℕ → ℕ → Type 0
Reaches g a b = (via : List ℕ) × IsTrail g a via b
