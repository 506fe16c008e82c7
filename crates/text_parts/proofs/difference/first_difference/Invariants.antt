use Rattle.std.proofs.Common.{◌≡◌, ◌+◌, ◌≤◌, drop}
use Rattle.text_parts.specs.Difference.{difference_from, first_difference}
use Rattle.text_parts.proofs.difference.first_difference.Given as goal

abbrev pub invariant-loop-place : goal.invariant-loop-place
invariant-loop-place l = record {
  same : difference_from l.line (drop l.place l.one) (drop l.place l.other) ≡ first_difference l.one l.other;
  few : l.line ≤ l.place + 1;
}
