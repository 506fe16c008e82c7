use Rattle.std.proofs.Common.{◌≡◌, ◌∙◌, List, Some, ap, set, sym, subst}
use Rattle.std.specs.Prelude.{slice_get}
use Rattle.std.proofs.lemmas.Option.{slice_get-get_or}
use Rattle.pair_rows.specs.declared.values.FirstRow.{FirstRow}
use Rattle.pair_rows.specs.declared.values.Met.{Met}
use Rattle.pair_rows.specs.Meetings.{AreFirst, mets_at}
use Rattle.place_rows.specs.Noted.{AreNoted}
use Rattle.place_rows.proofs.Mets.{is_met, not_met, noted_more, read_first}
use Rattle.place_rows.proofs.noting.note_at.Goals as goal

pub returns-then-not-is_row-clause-noted : goal.returns-then-not-is_row-clause-noted
returns-then-not-is_row-clause-noted c = λ mets noted.
    let met : Met = record { place = c.args.place.now; row = c.args.row; node = c.args.node } in
    subst (λ (ms : List Met). AreNoted ms c.args.places.now.keys c.args.rows.now.items) (not_met mets met (sym c.is_row.ensures ∙ c.if-not-is_row.true)) noted

pub returns-clause-noted : goal.returns-clause-noted
returns-clause-noted c = λ mets noted.
    let met : Met = record { place = c.args.place.now; row = c.args.row; node = c.args.node } in
    let keys = c.number_of.new.places.keys in
    let rows = c.number_of.new.rows.items in
    let n = c.in_ok-number.number in
    let told = c.in_ok-number.ensures in
    let v = c.index_mut.result.now in
    let w = c.note.new.rows in
    let known : AreNoted mets keys rows = λ q. subst (λ (xs : List FirstRow). AreFirst (mets_at mets q) xs) (sym (told.kept q)) (noted q) in
    let there : slice_get rows n ≡ Some v = slice_get-get_or rows n v told.within ∙ ap Some (sym c.index_mut.ensures.value) in
    let first = c.in_ok-note.ensures (mets_at mets met.place) met.place (read_first mets met keys rows told.size known n told.number told.within v w there) in
    subst (λ (ms : List Met). AreNoted ms keys (set rows n w)) (is_met mets met (sym c.is_row.ensures ∙ c.if-not-is_row.false))
    (noted_more mets met keys rows told.size known n told.number told.within v w first)
