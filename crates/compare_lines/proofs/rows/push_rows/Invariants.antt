use Rattle.std.proofs.Common.{◌≡◌, ◌++◌, drop}
use Rattle.compare_lines.specs.Rows.{row_lines}
use Rattle.compare_lines.proofs.rows.push_rows.Given as goal

abbrev pub invariant-loop-i : goal.invariant-loop-i
invariant-loop-i l = l.text.items ++ row_lines l.net (drop l.i l.rows) (drop l.i l.walks) ≡ l.initial.text.items ++ row_lines l.net l.rows l.walks
