use Rattle.std.proofs.Common.{◌≡◌, ◌≤◌, ◌++◌, length, take}
use Rattle.std.specs.Prelude.{◌==◌}
use Rattle.std.specs.List.{slice_split}
use Rattle.config_lines.proofs.KeptWords.{texts, left_over}
use Rattle.config_lines.proofs.words.Words.of.Given as goal

abbrev pub invariant-loop-left : goal.invariant-loop-left
invariant-loop-left l = record {
  count : l.count ≤ 10;
  room : length l.places ≡ 10;
  whole : texts (take l.count l.places) ++ left_over 32 l.left ≡ slice_split (λ b. b == 32) l.fn.line;
}

abbrev pub decreases-loop-left : goal.decreases-loop-left
decreases-loop-left l = length (left_over 32 l.left)
