use Rattle.std.proofs.Common.{◌∙◌, refl, sym}
use Rattle.list_law.proofs.Options.{none_or_some}
use Rattle.pair_changes.proofs.Needed.{found_row, row_found}
use Rattle.pair_changes.proofs.walks.node_of.Goals as goal

pub returns : goal.returns
returns c =
    let first = c.in-Some.first in
    let found = found_row c.args.rows.now c.args.row.now first (sym c.first_of.ensures ∙ c.in-Some.is) in
    (first, found.0, found.1, refl)

pub unreachable-requires : goal.unreachable-requires
unreachable-requires c =
    let there = row_found c.args.rows.now c.args.row.now c.requires in
    none_or_some _ there.0 (sym c.first_of.ensures ∙ c.in_default.is) there.1
