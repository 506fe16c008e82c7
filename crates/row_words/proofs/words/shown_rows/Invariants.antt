use Rattle.std.proofs.Common.{◌≡◌, filter, take}
use Rattle.row_words.specs.WordsOfRows.{is_shown}
use Rattle.row_words.proofs.words.shown_rows.Given as goal

abbrev pub invariant-loop-i : goal.invariant-loop-i
invariant-loop-i l = l.list ≡ filter (is_shown l.rows) (take l.i l.rows)
