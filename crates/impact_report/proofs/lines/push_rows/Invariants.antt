use Rattle.std.proofs.Common.{◌≡◌, ◌≤◌, ◌++◌, filter, length, take}
use Rattle.std.specs.List.{flat_map}
use Rattle.impact_report.specs.Texts.{changes, row_text}
use Rattle.impact_report.proofs.lines.push_rows.Given as goal

abbrev pub invariant-loop-row : goal.invariant-loop-row
invariant-loop-row l = record {
  text : l.text.items ≡ l.initial.text.items ++ flat_map (row_text l.net) (filter changes (take l.row-index l.rows));
  count : l.told ≡ length (filter changes (take l.row-index l.rows));
  few : l.told ≤ l.row-index;
}
