use Rattle.std.proofs.Common.{◌≡◌, ◌∙◌, ◌<◌, ℕ, List, None, Some, ap, arith, false, length, refl, rules, sym}
use Rattle.std.specs.Prelude.{Option, is_none, slice_get}
use Rattle.std.proofs.lemmas.Bool.{true≢false}
use Rattle.std.proofs.lemmas.Option.{slice_get-get_or}
use Rattle.list_law.proofs.Positions.{list_any-no_position}
use Rattle.compare_base.specs.declared.rows.Place.{Place}
use Rattle.compare_base.specs.Same.{same_place}
use Rattle.pair_rows.specs.declared.values.FirstRow.{FirstRow}
use Rattle.place_rows.specs.declared.table.PlaceRows.{PlaceRows}
use Rattle.place_rows.specs.Noted.{rows_for}
use Rattle.place_rows.specs.Rows.{rows_by}
use Rattle.place_rows.proofs.Tables.{number_found, rows_absent, rows_read}
use Rattle.place_rows.proofs.table.PlaceRows.rows.Goals as goal

-- the rows of a place with a peer are those of a session
of_session : (table : PlaceRows) (place : Place) (peer : Option ℕ) → is_none peer ≡ false → rows_for table.places.keys table.sessions.items place ≡ rows_by table place peer
of_session table place None some = absurd (true≢false some)
of_session table place (Some q) some = refl

pub returns-in-Some : goal.returns-in-Some
returns-in-Some c =
    let table = c.args.self.now in
    let rows = table.sessions.items in
    let n = c.in-Some.number in
    let v = c.index.result.now in
    let number = number_found c.args.place table.places.keys n (sym c.in-Some.ensures.index) in
    let within : n < length rows = omega (arith, c.in-Some.ensures.within, table.size) in
    let there : slice_get rows n ≡ Some v = slice_get-get_or rows n v within ∙ ap Some (sym c.index.ensures) in
    c.as_slice.ensures.value ∙ rows_read c.args.place table.places.keys rows v n table.size number there
    ∙ of_session table c.args.place c.args.place.peer (search rules)

pub returns-in-None : goal.returns-in-None
returns-in-None c =
    let table = c.args.self.now in
    rows_absent c.args.place table.places.keys table.sessions.items (list_any-no_position (same_place c.args.place) table.places.keys (sym c.in-None.ensures.index))
    ∙ of_session table c.args.place c.args.place.peer (search rules)
