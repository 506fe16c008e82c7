use Rattle.std.proofs.Common.{◌≡◌, ◌∷◌, [], length}
use Rattle.config_lines.specs.Patterns.{later_patterns}
use Rattle.config_lines.proofs.KeptWords.{left_over}
use Rattle.config_lines.proofs.pattern.read_patterns.Given as goal

abbrev pub invariant-loop-left : goal.invariant-loop-left
invariant-loop-left l = later_patterns l.all.items (left_over 44 l.left) ≡ later_patterns (l.fn.first ∷ []) (left_over 44 l.fn.pieces)

abbrev pub decreases-loop-left : goal.decreases-loop-left
decreases-loop-left l = length (left_over 44 l.left)
