use Rattle.std.proofs.Common.{◌≤◌, ◌++◌, ◌∷◌, [], length, map, sym, ap, ◌∙◌, arith}
use Rattle.std.proofs.lemmas.List.{take_all}
use Rattle.list_law.proofs.Changed.{map_next}
use Rattle.pair_graph.specs.Made.{pair_node}
use Rattle.pair_graph.proofs.growing.Growing.nodes.Goals as goal

pub loop-number-preserved : goal.loop-number-preserved
loop-number-preserved c =
    c.in_ok-push.ensures.items ∙ ap (λ l. l ++ c.node.result ∷ []) c.loop-number.invariant
    ∙ sym (map_next pair_node c.args.self.now.pairs.keys c.loop-number.number c.node.result c.node.ensures)

pub returns : goal.returns
returns c =
    let all : length c.args.self.now.pairs.keys ≤ c.loop-number.number = omega (arith, c.loop-number-test.false, c.len-number-end.ensures.len) in
    c.from_vec.ensures ∙ c.loop-number.invariant ∙ ap (map pair_node) (take_all c.loop-number.number c.args.self.now.pairs.keys all)
