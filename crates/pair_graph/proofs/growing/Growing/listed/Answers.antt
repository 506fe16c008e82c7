use Rattle.std.proofs.Common.{◌≤◌, ◌++◌, ◌∷◌, [], length, sym, ap, ◌∙◌, arith}
use Rattle.std.proofs.lemmas.List.{take_all}
use Rattle.pair_graph.proofs.Numbered.{take_next}
use Rattle.pair_graph.proofs.growing.Growing.listed.Goals as goal

pub loop-number-preserved : goal.loop-number-preserved
loop-number-preserved c =
    c.in_ok-push.ensures.items ∙ ap (λ l. l ++ c.item.result ∷ []) c.loop-number.invariant
    ∙ sym (take_next c.args.self.now.pairs.keys c.loop-number.number c.item.result c.item.ensures)

pub returns : goal.returns
returns c =
    let all : length c.args.self.now.pairs.keys ≤ c.loop-number.number = omega (arith, c.loop-number-test.false, c.len-number-end.ensures.len) in
    c.from_vec.ensures ∙ c.loop-number.invariant ∙ take_all c.loop-number.number c.args.self.now.pairs.keys all
