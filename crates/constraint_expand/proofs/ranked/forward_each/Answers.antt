use Rattle.std.proofs.Common.{map, subst, sym, take, ◌+◌}
use Rattle.policy_base.specs.declared.call.Call.TheVariants.{Of}
use Rattle.path_exprs.specs.Forward.{forward}
use Rattle.path_exprs.specs.Parts.{Puts}
use Rattle.path_exprs.specs.Shared.{values}
use Rattle.constraint_expand.proofs.Turns.{set-turn}
use Rattle.constraint_expand.proofs.ranked.forward_each.Goals as goal

pub loop-i-preserved : goal.loop-i-preserved
loop-i-preserved c =
    let old = values c.args.parts.now in
    let new = values c.add.new.self in
    subst (λ ns. Puts old new ns (map (forward c.args.net.now) (map (Of c.args.call) (take (c.loop-i.i + 1) c.args.sets.now)))) (sym c.in_ok-push.ensures.items)
    (set-turn c.args.net.now old (values c.loop-i.parts) new c.loop-i.all.items c.args.call c.args.sets.now c.loop-i.i _ _ _ c.loop-i.invariant c.loop-i-test.true
    c.in_ok-one.ensures c.in_ok-add.ensures.added c.in_ok-add.ensures.number)
