use Rattle.std.proofs.Common.{◌≡◌, ◌∙◌, ◌<◌, List, None, Some, ap, arith, length, set, subst, sym}
use Rattle.std.specs.Prelude.{slice_get}
use Rattle.std.proofs.lemmas.Option.{slice_get-get_or}
use Rattle.pair_rows.specs.declared.values.Met.{Met}
use Rattle.pair_rows.specs.Meetings.{mets_at}
use Rattle.place_rows.specs.Noted.{AreNotedAt}
use Rattle.place_rows.proofs.Mets.{is_met, noted_there}
use Rattle.place_rows.proofs.noting.note_in.Goals as goal

pub returns-in_ok-note-clause-noted : goal.returns-in_ok-note-clause-noted
returns-in_ok-note-clause-noted c = λ mets noted.
    let rows = c.args.routers.now.items in
    let n = c.number-place.result in
    let met : Met = record { place = record { router = c.args.at; peer = None }; row = c.args.row; node = c.args.node } in
    let v = c.index_mut.result.now in
    let w = c.note.new.rows in
    let within : n < length rows = omega (arith, c.if-place-len.true, c.number-place.ensures) in
    let there : slice_get rows n ≡ Some v = slice_get-get_or rows n v within ∙ ap Some (sym c.index_mut.ensures.value) in
    subst (λ (ms : List Met). AreNotedAt ms (set rows n w)) (is_met mets met (sym c.is_row.ensures ∙ c.if-is_row.true))
    (noted_there mets met n rows v w (ap (λ r. record { router = r; peer = None }) (sym c.number-place.ensures)) within there noted (c.in_ok-note.ensures (mets_at mets met.place) met.place))
