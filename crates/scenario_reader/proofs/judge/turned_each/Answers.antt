use Rattle.std.proofs.Common.{◌++◌, ◌∷◌, ◌∙◌, [], ap, map, sym}
use Rattle.std.proofs.lemmas.List.{take_all}
use Rattle.list_law.proofs.Changed.{map_so_far}
use Rattle.scenario_reader.specs.Rules.{turned}
use Rattle.scenario_reader.proofs.judge.turned_each.Goals as goal

pub loop-pair-preserved : goal.loop-pair-preserved
loop-pair-preserved c =
    let pairs = c.args.pairs.now in
    let i = c.loop-pair.pair-index in
    let pair = c.pair-item.result in
    c.in_ok-push.ensures.ok
    ∙ ap (λ p. c.loop-pair.all ++ p ∷ []) c.turned.ensures
    ∙ ap (λ all. all ++ turned c.args.net.now pair ∷ []) c.loop-pair.invariant
    ∙ sym (map_so_far (turned c.args.net.now) pairs i pair c.loop-pair-test.true c.pair-item.is)

pub returns : goal.returns
returns c = c.loop-pair.invariant ∙ ap (map (turned c.args.net.now)) (take_all c.loop-pair.pair-index c.args.pairs.now c.loop-pair-test.false)
