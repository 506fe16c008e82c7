use Rattle.std.proofs.Common.{◌<◌, ◌++◌, ◌∷◌, [], ap, get_or, length, map, sym, ◌∙◌, arith}
use Rattle.walk_states.specs.Growth.{ways_in}
use Rattle.walk_states.proofs.WayLists.{way-none, way-pushed}
use Rattle.walk_states.proofs.neighbours.add_way.Goals as goal

pub returns-in_ok-push-clause-added : goal.returns-in_ok-push-clause-added
returns-in_ok-push-clause-added c =
    let within : c.args.from < length c.args.ways.now.items = omega (arith, c.args.ways.now.ok.0, c.requires.within) in
    way-pushed (λ v. v.items) c.args.ways.now.items c.args.net.now c.args.case.now c.number.result c.args.from c.args.to c.push.new.self c.index_mut.result.now
    c.number.ensures within
    (c.in_ok-push.ensures.ok ∙ ap (λ v. v.items ++ c.number-then-is_way.result ∷ []) c.index_mut.ensures.value
    ∙ ap (λ n. (get_or c.args.ways.now.items c.number.result c.index_mut.result.now).items ++ n ∷ []) c.number-then-is_way.ensures) (sym c.is_way.ensures ∙ c.if-is_way.true)

pub returns-else-is_way-clause-added : goal.returns-else-is_way-clause-added
returns-else-is_way-clause-added c = λ at.
    way-none c.args.net.now c.args.case.now c.args.from c.args.to at (ways_in (map (λ v. v.items) c.args.ways.now.items) at) (sym c.is_way.ensures ∙ c.if-is_way.false)
