use Rattle.std.proofs.Common.{◌≡◌, ◌∙◌, List, ap, arith, false, sym, true}
use Rattle.std.specs.List.{position_or_len}
use Rattle.pair_rows.specs.declared.values.FirstRow.{FirstRow}
use Rattle.pair_rows.specs.declared.values.Met.{Met}
use Rattle.place_rows.proofs.FirstRows.{is_placed, noted_known, noted_new, position_within, stands_at}
use Rattle.place_rows.proofs.noting.note.Goals as goal

pub returns-then-is_at : goal.returns-then-is_at
returns-then-is_at c = λ mets place first.
    let rows = c.args.rows.now.items in
    let met : Met = record { place = place; row = c.args.row; node = c.args.node } in
    let index = c.place_of-index.result in
    let is : index ≡ position_or_len (is_placed met.row) rows = c.place_of-index.ensures ∙ ap (position_or_len (is_placed met.row)) c.deref.ensures.value in
    let there : stands_at rows index met.row ≡ true = ap (λ (xs : List FirstRow). stands_at xs index met.row) (sym c.deref-2.ensures.value) ∙ sym c.is_at.ensures ∙ c.if-is_at.true in
    noted_known mets rows first met index is c.lower.new.rows.items there c.lower.ensures

pub insert-requires : goal.insert-requires
insert-requires c =
    let rows = c.args.rows.now.items in
    let is : c.place_of-index.result ≡ position_or_len (is_placed c.args.row) rows = c.place_of-index.ensures ∙ ap (position_or_len (is_placed c.args.row)) c.deref.ensures.value in
    omega (arith, is, position_within (is_placed c.args.row) rows, c.args.rows.now.ok.0)

pub returns : goal.returns
returns c = λ mets place first.
    let rows = c.args.rows.now.items in
    let met : Met = record { place = place; row = c.args.row; node = c.args.node } in
    let index = c.place_of-index.result in
    let is : index ≡ position_or_len (is_placed met.row) rows = c.place_of-index.ensures ∙ ap (position_or_len (is_placed met.row)) c.deref.ensures.value in
    let absent : stands_at rows index met.row ≡ false = ap (λ (xs : List FirstRow). stands_at xs index met.row) (sym c.deref-2.ensures.value) ∙ sym c.is_at.ensures ∙ c.if-is_at.false in
    noted_new mets rows first met index is c.insert.new.self.items absent c.in_ok-insert.ensures.items
