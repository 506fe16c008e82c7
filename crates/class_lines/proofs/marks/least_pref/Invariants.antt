use Rattle.std.proofs.Common.{◌≡◌, take}
use Rattle.class_lines.specs.Marks.{least_of_prefs}
use Rattle.class_lines.proofs.marks.least_pref.Given as goal

abbrev pub invariant-loop-pref : goal.invariant-loop-pref
invariant-loop-pref l = l.least ≡ least_of_prefs (take l.pref-index l.prefs)
