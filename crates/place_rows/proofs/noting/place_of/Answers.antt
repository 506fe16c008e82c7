use Rattle.std.proofs.Common.{◌≡◌, ◌∙◌, ap, length, tests, rules}
use Rattle.std.specs.List.{position}
use Rattle.std.specs.Option.{unwrap_or}
use Rattle.std.proofs.lemmas.Iterator.{YieldsList-from_slice}
use Rattle.std.proofs.lemmas.Iterator.Search.{position_from_yields_List}
use Rattle.place_rows.proofs.FirstRows.{is_placed, position_or_behind}
use Rattle.place_rows.proofs.noting.place_of.Goals as goal

pub returns : goal.returns
returns c =
    let rows = c.args.rows.now in
    let placed = is_placed c.args.row in
    let found : c.position.result ≡ position placed rows =
    position_from_yields_List placed _ _ c.position.result c.position.ensures.ran (YieldsList-from_slice rows cc) (λ x b q k. search (rules, tests)) in
    c.unwrap_or.ensures ∙ ap (λ o. unwrap_or o (length rows)) found ∙ position_or_behind placed rows
