use Rattle.std.proofs.Common.{◌++◌, ◌∷◌, [], ap, map, ◌∙◌}
use Rattle.std.proofs.lemmas.List.{take_all}
use Rattle.net_base.specs.Prefixes.{only}
use Rattle.config_maker.proofs.Gathering.{one_more}
use Rattle.config_maker.proofs.classes.only_each.Goals as goal

pub loop-prefix-preserved : goal.loop-prefix-preserved
loop-prefix-preserved c =
    let prefix = c.prefix-item.result in
    one_more only [] c.args.prefixes.now c.loop-prefix.prefix-index prefix prefix c.loop-prefix-test.true c.prefix-item.is
    (c.in_ok-push.ensures.ok ∙ ap (λ p. c.loop-prefix.patterns ++ p ∷ []) c.only.ensures) c.loop-prefix.invariant

pub returns : goal.returns
returns c = c.loop-prefix.invariant ∙ ap (map only) (take_all c.loop-prefix.prefix-index c.args.prefixes.now c.loop-prefix-test.false)
