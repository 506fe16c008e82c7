use Rattle.std.proofs.Common.{◌≡◌, ◌∙◌, List, Some, Vec, ap, arith, get_or, length, sym}
use Rattle.std.specs.Prelude.{slice_get}
use Rattle.std.specs.Global.{Global}
use Rattle.std.proofs.lemmas.Option.{slice_get-get_or}
use Rattle.pair_rows.specs.declared.values.FirstRow.{FirstRow}
use Rattle.place_rows.proofs.Tables.{at_beyond, at_read}
use Rattle.place_rows.proofs.table.PlaceRows.at.Goals as goal

pub returns-in-Some : goal.returns-in-Some
returns-in-Some c =
    let rows = c.args.self.now.routers.items in
    let r = c.args.router in
    let v = c.in-Some.rows.now in
    let found = c.in-Some.ensures.lookup.3 in
    let read = found.1 v ∙ ap (λ (xs : List (Vec FirstRow Global)). get_or xs r v) c.deref.ensures.value in
    let there : slice_get rows r ≡ Some v = slice_get-get_or rows r v (omega (arith, found.0, ap length c.deref.ensures.value)) ∙ ap Some (sym read) in
    c.as_slice.ensures.value ∙ at_read rows v r there

pub returns-in-None : goal.returns-in-None
returns-in-None c = sym (at_beyond c.args.self.now.routers.items c.args.router (omega (arith, c.in-None.ensures.lookup.3, ap length c.deref.ensures.value)))
