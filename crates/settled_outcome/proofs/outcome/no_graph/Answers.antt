use Rattle.std.proofs.Common.{ℕ, List, [], sym, subst}
use Rattle.graph_base.specs.Graphs.{IsGraph}
use Rattle.graph_base.specs.declared.graph.Node.{Node}
use Rattle.settled_outcome.proofs.Surviving.{empty_is_graph}
use Rattle.settled_outcome.proofs.outcome.no_graph.Goals as goal

pub new-requires : goal.new-requires
new-requires c =
    subst (λ (ns : List Node). IsGraph (record { nodes = ns; starts = c.new-starts.result; steps = c.new-steps.result })) (sym c.new-nodes.ensures)
    (subst (λ (xs : List ℕ). IsGraph (record { nodes = []; starts = xs; steps = c.new-steps.result })) (sym c.new-starts.ensures)
    (subst (λ (es : List (ℕ × ℕ)). IsGraph (record { nodes = []; starts = []; steps = es })) (sym c.new-steps.ensures) empty_is_graph))
