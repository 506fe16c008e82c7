use Rattle.std.proofs.Common.{◌≡◌, ◌++◌, map, drop}
use Rattle.serde_json.specs.Data.{number, unsigned}
use Rattle.evidence_text.proofs.Items.{rest_text}
use Rattle.evidence_text.proofs.print.push_numbers.Given as goal

abbrev pub invariant-loop-i : goal.invariant-loop-i
invariant-loop-i l = l.text.items ++ rest_text l.i (map (λ n. number (unsigned n)) (drop l.i l.numbers)) ≡ l.initial.text.items ++ rest_text 0 (map (λ n. number (unsigned n)) l.numbers)
