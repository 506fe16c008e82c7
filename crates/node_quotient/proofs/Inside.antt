-- The starts and the steps of a graph are at its nodes.
use Rattle.graph_base.specs.Graphs.{PlainGraph, IsGraph}
use Rattle.graph_base.proofs.RunSteps.{IsInside}
use Rattle.graph_base.proofs.StartsAndSteps.{start_node, step_nodes}

pub inside_of : (g : PlainGraph) → IsGraph g → IsInside g
inside_of g ok = record {
  starts = λ n h. start_node g n ok h;
  sources = λ m n h. (step_nodes g m n ok h).0;
  steps = λ m n h. (step_nodes g m n ok h).1;
}
