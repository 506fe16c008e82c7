use Rattle.std.proofs.Common.{◌≡◌, ◌++◌, take}
use Rattle.std.specs.List.{flat_map}
use Rattle.refusal_lines.specs.Explanations.{removed_line}
use Rattle.refusal_lines.proofs.explanations.push_lines.Given as goal

abbrev pub invariant-loop-line : goal.invariant-loop-line
invariant-loop-line l = l.text.items ≡ l.initial.text.items ++ flat_map (removed_line l.net l.graph) (take l.line-index l.lines)
