use Rattle.std.proofs.Common.{◌≡◌, ◌++◌, ◌∷◌, [], ◌∙◌, List, None, Vec, ap, arith, length, sym}
use Rattle.std.specs.Global.{Global}
use Rattle.std.specs.List.{position}
use Rattle.compare_base.specs.declared.rows.Place.{Place}
use Rattle.compare_base.specs.Same.{same_place}
use Rattle.pair_rows.specs.declared.values.FirstRow.{FirstRow}
use Rattle.place_rows.specs.Noted.{rows_for}
use Rattle.place_rows.proofs.Tables.{keys_grown, number_grown, rows_pushed}
use Rattle.place_rows.proofs.noting.number_of.Goals as goal

pub returns-clause-number : goal.returns-clause-number
returns-clause-number c =
    let place = c.args.place.now in
    let keys = c.args.places.now.keys in
    let absent : position (same_place place) keys ≡ None = sym c.in_default.ensures.index in
    let last : c.len-number.result ≡ length keys = omega (arith, c.len-number.ensures, c.requires.size, c.args.rows.now.ok.0) in
    number_grown place keys c.insert.new.self.keys absent c.in_ok-insert.ensures.keys c.len-number.result last

pub returns-clause-kept : goal.returns-clause-kept
returns-clause-kept c = λ q.
    let place = c.args.place.now in
    let keys = c.args.places.now.keys in
    let rows = c.args.rows.now.items in
    let absent : position (same_place place) keys ≡ None = sym c.in_default.ensures.index in
    ap (λ (ks : List Place). rows_for ks c.push.new.self.items q) (keys_grown place keys c.insert.new.self.keys absent c.in_ok-insert.ensures.keys)
    ∙ ap (λ (rs : List (Vec FirstRow Global)). rows_for (keys ++ place ∷ []) rs q) c.in_ok-push.ensures.items
    ∙ rows_pushed keys rows place c.new.result q c.requires.size c.new.ensures.items
