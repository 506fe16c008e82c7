use Rattle.std.proofs.Common.{◌≡◌, ◌+◌, ◌<◌, ℕ, List, [], ◌∷◌, ◌++◌, arith, filter, get_or, length, take, sym, ap, ◌∙◌}
use Rattle.std.specs.List.{flat_map, zip}
use Rattle.std.proofs.lemmas.List.{append_assoc, get_or_default, length_push}
use Rattle.impact_law.specs.declared.impact.CutRow.{CutRow}
use Rattle.impact_law.specs.declared.impact.Moves.{Moves}
use Rattle.impact_report.specs.Texts.{changes_or_moves, moves_text}
use Rattle.impact_report.proofs.ImpactTelling.{is_told, isnt_told, told_text, zip_next}
use Rattle.impact_report.proofs.lines.push_moving_rows.Goals as goal
use Rattle.impact_report.proofs.lines.push_moving_rows.Goals.{then-has_effect+in_ok-push_moves, else-has_effect}

pub loop-i-preserved : goal.loop-i-preserved
loop-i-preserved c =
    let rows = c.args.rows.now in
    let moves = c.args.moves.now in
    let i = c.loop-i.i in
    let old = c.args.text.now.items in
    let write = moves_text c.args.net.now in
    let low : i < length moves = omega (arith, c.loop-i-test.true, c.requires) in
    let none : Moves = record { routes = 0; sets = 0 } in
    let count = get_or moves i none in
    let row : CutRow × Moves = (c.index-rows-i.result, count) in
    let before = zip (take i rows) (take i moves) in
    let next : zip (take (i + 1) rows) (take (i + 1) moves) ≡ before ++ row ∷ [] =
    zip_next rows moves i row.0 count c.loop-i-test.true low c.index-rows-i.is (get_or_default moves i none count low) in
    elim c.if-has_effect.branch [
      | then-has_effect+in_ok-push_moves w ↦ (
          let told = ap (filter changes_or_moves) next ∙ is_told changes_or_moves write before row (sym c.has_effect.ensures ∙ w.if-has_effect.true) in
          record {
            text = rw w.text-is (
                w.in_ok-push_moves.ensures ∙ ap (λ (t : List ℕ). t ++ write row) c.loop-i.invariant.text ∙ append_assoc old (flat_map write (filter changes_or_moves before)) (write row)
                ∙ ap (λ (t : List ℕ). old ++ t) (sym (ap (flat_map write) told ∙ told_text changes_or_moves write before row)));
            count = rw w.told-is (
                ap (λ n. n + 1) c.loop-i.invariant.count ∙ sym (ap length told ∙ length_push (filter changes_or_moves before) row));
            few = rw w.told-is (omega (arith, c.loop-i.invariant.few));
          })
      | else-has_effect w ↦ (
          let told = ap (filter changes_or_moves) next ∙ isnt_told changes_or_moves write before row (sym c.has_effect.ensures ∙ w.if-has_effect.false) in
          record {
            text = rw w.text-is (c.loop-i.invariant.text ∙ ap (λ (xs : List (CutRow × Moves)). old ++ flat_map write xs) (sym told));
            count = rw w.told-is (c.loop-i.invariant.count ∙ sym (ap length told));
            few = rw w.told-is (omega (arith, c.loop-i.invariant.few));
          })
    ]
