use Rattle.std.proofs.Common.{◌∷◌, [], ◌++◌, List, length, refl, sym, ap₂, ◌∙◌, subst}
use Rattle.std.proofs.lemmas.List.{take_all}
use Rattle.std.proofs.lemmas.Option.{slice_get_read}
use Rattle.list_law.proofs.Changed.{map_so_far}
use Rattle.impact_law.specs.declared.impact.CutRow.{CutRow}
use Rattle.impact_law.specs.declared.impact.Moves.{Moves}
use Rattle.whatif_report.specs.Settling.{AreMoves, moves_in}
use Rattle.whatif_report.proofs.report.moves_of.Goals as goal

pub moves-requires-clause-cut : goal.moves-requires-clause-cut
moves-requires-clause-cut c =
    let rows = c.args.rows.now in
    let row = c.row-item.result in
    c.requires.cuts row (c.loop-row.row-index, slice_get_read rows (length rows) c.loop-row.row-index row refl c.loop-row-test.true c.row-item.is)

pub loop-row-preserved : goal.loop-row-preserved
loop-row-preserved c = λ after settled.
    let s = c.args.settled.now.situation.now in
    let rows = c.args.rows.now in
    let row = c.row-item.result in
    let Of : CutRow → Moves = λ (r : CutRow). moves_in s r.cut (after r.cut) in
    c.in_ok-push.ensures.ok ∙ ap₂ (λ (xs : List Moves) (m : Moves). xs ++ m ∷ []) (c.loop-row.invariant after settled) (c.in_ok-moves.ensures (after row.cut) (settled row.cut))
    ∙ sym (map_so_far Of rows c.loop-row.row-index row c.loop-row-test.true c.row-item.is)

pub returns : goal.returns
returns c =
    subst (λ (rows : List CutRow). AreMoves c.args.settled.now.situation.now rows c.loop-row.moves)
    (take_all c.loop-row.row-index c.args.rows.now c.loop-row-test.false) c.loop-row.invariant
