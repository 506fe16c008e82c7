use Rattle.std.proofs.Common.{◌≡◌, ◌+◌, ◌++◌, drop}
use Rattle.policy_text.specs.Choices.{rank_lines_from}
use Rattle.policy_text.proofs.choices.push_lines.Given as goal

abbrev pub invariant-loop-place : goal.invariant-loop-place
invariant-loop-place l = l.initial.text.items ++ rank_lines_from 1 l.choices ≡ l.text.items ++ rank_lines_from (l.place + 1) (drop l.place l.choices)
