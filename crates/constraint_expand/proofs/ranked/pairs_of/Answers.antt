use Rattle.std.proofs.Common.{map, subst, sym, take, length, ◌+◌}
use Rattle.path_exprs.specs.Parts.{at, Puts}
use Rattle.path_exprs.specs.Shared.{values}
use Rattle.path_exprs.proofs.Numbers.{known-more, no-shorter}
use Rattle.constraint_expand.proofs.Turns.{pairs, row-turn}
use Rattle.constraint_expand.proofs.ranked.pairs_of.Goals as goal

pub row_of-requires-clause-second : goal.row_of-requires-clause-second
row_of-requires-clause-second c =
    let old = values c.args.parts.now in
    let cur = values c.loop-i.parts in
    known-more (length old) (length cur) c.args.fs.now (no-shorter old cur c.loop-i.invariant.2) c.requires.second

pub loop-i-preserved : goal.loop-i-preserved
loop-i-preserved c =
    let old = values c.args.parts.now in
    let new = values c.row_of.new.parts in
    subst (λ ns. Puts old new ns (pairs (map (at old) c.args.fs.now) (map (at old) (take (c.loop-i.i + 1) c.args.es.now)))) (sym c.in_ok-append.ensures.items)
    (row-turn old (values c.loop-i.parts) new c.loop-i.all.items c.in_ok-row.row.items c.args.es.now c.args.fs.now c.loop-i.i 0 c.loop-i.invariant c.requires.first c.requires.second
    c.loop-i-test.true c.in_ok-row.ensures)
