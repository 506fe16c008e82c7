use Rattle.std.proofs.Common.{◌≡◌, ◌≤◌, ◌++◌, filter, length, take}
use Rattle.std.specs.List.{flat_map, zip}
use Rattle.impact_report.specs.Texts.{changes_or_moves, moves_text}
use Rattle.impact_report.proofs.lines.push_moving_rows.Given as goal

abbrev pub invariant-loop-i : goal.invariant-loop-i
invariant-loop-i l = record {
  text : l.text.items ≡ l.initial.text.items ++ flat_map (moves_text l.net) (filter changes_or_moves (zip (take l.i l.rows) (take l.i l.moves)));
  count : l.told ≡ length (filter changes_or_moves (zip (take l.i l.rows) (take l.i l.moves)));
  few : l.told ≤ l.i;
}
