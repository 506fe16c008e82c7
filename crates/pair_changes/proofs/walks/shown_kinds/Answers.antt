use Rattle.std.proofs.Common.{◌+◌, subst, sym, take}
use Rattle.place_rows.specs.Rows.{rows_of}
use Rattle.pair_changes.specs.Walks.{AreAllShown}
use Rattle.pair_changes.proofs.OneMore.{item_read}
use Rattle.pair_changes.proofs.WalkLists.{shown_next}
use Rattle.pair_changes.proofs.walks.shown_kinds.Goals as goal

pub shown_kind-requires-clause-rows : goal.shown_kind-requires-clause-rows
shown_kind-requires-clause-rows c = λ place row.
    c.requires.rows c.kind-item.result place row (item_read c.args.kinds.now c.loop-kind.kind-index c.kind-item.result c.loop-kind-test.true c.kind-item.is)

pub loop-kind-preserved : goal.loop-kind-preserved
loop-kind-preserved c =
    let g = c.args.both.now.graph in
    let firsts = rows_of c.args.table.now in
    let i = c.loop-kind.kind-index in
    subst (AreAllShown g firsts (take (i + 1) c.args.kinds.now)) (sym c.in_ok-push.ensures.ok)
    (shown_next g firsts c.args.kinds.now i c.kind-item.result c.loop-kind.shown c.in_ok-shown_kind.field-0 c.loop-kind-test.true c.kind-item.is c.loop-kind.invariant c.in_ok-shown_kind.ensures)
