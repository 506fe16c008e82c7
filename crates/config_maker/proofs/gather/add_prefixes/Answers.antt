use Rattle.std.proofs.Common.{◌++◌, ap, map, ◌∙◌}
use Rattle.std.proofs.lemmas.List.{take_all}
use Rattle.config_maker.specs.Hops.{announced_of}
use Rattle.config_maker.proofs.Gathering.{one_more}
use Rattle.config_maker.proofs.gather.add_prefixes.Goals as goal

pub loop-prefix-preserved : goal.loop-prefix-preserved
loop-prefix-preserved c =
    let p = c.prefix-item.result in
    one_more (announced_of c.args.class c.args.at c.args.tag) c.args.all.now.items c.args.prefixes.now c.loop-prefix.prefix-index p p
    c.loop-prefix-test.true c.prefix-item.is c.in_ok-push.ensures.items c.loop-prefix.invariant

pub returns : goal.returns
returns c =
    c.loop-prefix.invariant
    ∙ ap (λ ps. c.args.all.now.items ++ map (announced_of c.args.class c.args.at c.args.tag) ps) (take_all c.loop-prefix.prefix-index c.args.prefixes.now c.loop-prefix-test.false)
