use Rattle.std.proofs.Common.{◌≡◌, ◌++◌, map, drop}
use Rattle.evidence_text.specs.Text.{step_data}
use Rattle.evidence_text.proofs.Items.{rest_text}
use Rattle.evidence_text.proofs.print.push_steps.Given as goal

abbrev pub invariant-loop-i : goal.invariant-loop-i
invariant-loop-i l = l.text.items ++ rest_text l.i (map step_data (drop l.i l.steps)) ≡ l.initial.text.items ++ rest_text 0 (map step_data l.steps)
