use Rattle.std.proofs.Common.{◌≡◌, ◌++◌, map, take, drop}
use Rattle.std.specs.List.{AllByRecursion}
use Rattle.evidence_text.specs.Text.{case_data}
use Rattle.evidence_text.specs.Writable.{IsWritable}
use Rattle.evidence_text.proofs.Items.{rest_text}
use Rattle.evidence_text.proofs.print.push_cases.Given as goal

abbrev pub invariant-loop-i : goal.invariant-loop-i
invariant-loop-i l =
    (l.text.items ++ rest_text l.i (map case_data (drop l.i l.cases)) ≡ l.initial.text.items ++ rest_text 0 (map case_data l.cases))
    × AllByRecursion IsWritable (take l.i l.cases)
