use Rattle.std.proofs.Common.{◌∙◌, ap, arith, length, subst, sym}
use Rattle.std.specs.List.Sorted.{IsNonDecreasingBy}
use Rattle.pair_graph.specs.Ways.{AreRuns, from_of}
use Rattle.pair_graph.proofs.GraphWays.{no_steps}
use Rattle.pair_graph.proofs.Turns.{order_by_from, order_by_place}
use Rattle.pair_graph.proofs.side.Side.new.Goals as goal

pub begins_of-requires : goal.begins_of-requires
begins_of-requires c =
    let told = c.in_ok-sort_by_turn.ensures in
    subst (IsNonDecreasingBy from_of) (sym c.deref.ensures.value) (order_by_from c.sort_by_turn.new.ways.items told.order told.low)

pub invariant_of-result : goal.invariant_of-result
invariant_of-result c = record {
  starts_order = c.in_ok-sort_by_place.ensures.order;
  order = λ n. order_by_place c.sort_by_turn.new.ways.items n c.in_ok-sort_by_turn.ensures.order;
  runs = subst (λ ways. AreRuns ways c.in_ok-begins.begins.items) c.deref.ensures.value c.in_ok-begins.ensures.runs;
}

pub returns : goal.returns
returns c = record {
  starts = λ l. c.in_ok-sort_by_place.ensures.taken l ∙ c.in_ok-starts.ensures l;
  steps = λ n l. c.in_ok-sort_by_turn.ensures.taken n l ∙ c.in_ok-ways.ensures.steps n l;
  nodes = λ n l le. no_steps c.args.graph.now n l c.nodes.ensures.rules (omega (arith, le, c.in_ok-begins.ensures.count, ap length c.nodes.ensures.nodes, c.nodes.ensures.rules.count));
}
