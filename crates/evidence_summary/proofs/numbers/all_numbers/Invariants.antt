use Rattle.std.proofs.Common.{◌≡◌, take}
use Rattle.std.specs.List.{flat_map}
use Rattle.evidence_summary.specs.Summary.{router_numbers}
use Rattle.evidence_summary.proofs.numbers.all_numbers.Given as goal

abbrev pub invariant-loop-case : goal.invariant-loop-case
invariant-loop-case l = l.numbers.items ≡ flat_map (router_numbers l.net) (take l.case-index l.cases)
