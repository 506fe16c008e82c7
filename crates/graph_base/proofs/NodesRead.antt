-- What a node that is read says of its number.
use Rattle.std.proofs.Common.{◌≡◌, ℕ, ◌<◌, false, List, length, get_or, Some, refl, sym, ap, ◌∙◌}
use Rattle.std.specs.Prelude.{slice_get}
use Rattle.std.specs.Option.{option_map, option_and_then, unwrap_or}
use Rattle.std.proofs.lemmas.Option.{slice_get_read}
use Rattle.graph_base.specs.declared.graph.Node.{Node}
use Rattle.graph_base.specs.Graphs.{PlainGraph}
use Rattle.graph_base.specs.Runs.{place_of, is_listener, rank_at}

pub place_of-node : (g : PlainGraph) (n : ℕ) (node : Node) → slice_get g.nodes n ≡ Some node → place_of g n ≡ node.loc
place_of-node g n node h = ap (λ o. unwrap_or (option_map (λ (v : Node). v.loc) o) 0) h

pub is_listener-node : (g : PlainGraph) (n : ℕ) (node : Node) → slice_get g.nodes n ≡ Some node → is_listener g n ≡ node.listener
is_listener-node g n node h = ap (λ o. unwrap_or (option_map (λ (v : Node). v.listener) o) false) h

pub rank_at-node : (g : PlainGraph) (n : ℕ) (node : Node) → slice_get g.nodes n ≡ Some node → rank_at g n ≡ node.rank
rank_at-node g n node h = ap (λ o. option_and_then (λ (v : Node). v.rank) o) h

-- in a loop over the nodes
pub node_read : (g : PlainGraph) (nodes : List Node) (n : ℕ) (node : Node) → nodes ≡ g.nodes → n < length nodes → node ≡ get_or nodes n node
    → (place_of g n ≡ node.loc) × (rank_at g n ≡ node.rank)
node_read g nodes n node same lt read =
    let at : slice_get g.nodes n ≡ Some node = ap (λ (list : List Node). slice_get list n) (sym same) ∙ slice_get_read nodes (length nodes) n node refl lt read in
    (place_of-node g n node at, rank_at-node g n node at)
