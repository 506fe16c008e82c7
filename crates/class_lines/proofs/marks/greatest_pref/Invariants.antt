use Rattle.std.proofs.Common.{◌≡◌, ℕ, take}
use Rattle.class_lines.specs.Marks.{is_low, prefs_in, within}
use Rattle.class_lines.proofs.marks.greatest_pref.Given as goal

abbrev pub invariant-loop-line : goal.invariant-loop-line
invariant-loop-line l = (n : ℕ) → within n l.greatest ≡ is_low (prefs_in (take l.line-index l.lines)) n
