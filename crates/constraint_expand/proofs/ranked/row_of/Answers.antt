use Rattle.std.proofs.Common.{map, subst, sym, take, ◌+◌}
use Rattle.path_exprs.specs.Forward.{both_of_two}
use Rattle.path_exprs.specs.Parts.{at, Puts}
use Rattle.path_exprs.specs.Shared.{values}
use Rattle.constraint_expand.proofs.Turns.{pair-turn}
use Rattle.constraint_expand.proofs.ranked.row_of.Goals as goal

pub loop-i-preserved : goal.loop-i-preserved
loop-i-preserved c =
    let old = values c.args.parts.now in
    let new = values c.add.new.self in
    subst (λ ns. Puts old new ns (map (both_of_two (at old c.args.e)) (map (at old) (take (c.loop-i.i + 1) c.args.fs.now)))) (sym c.in_ok-push.ensures.items)
    (pair-turn old (values c.loop-i.parts) new c.loop-i.all.items c.args.e c.args.fs.now c.loop-i.i _ 0 c.loop-i.invariant c.requires.first c.requires.second c.loop-i-test.true
    c.in_ok-add.ensures.added c.in_ok-add.ensures.number)
