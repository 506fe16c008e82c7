use Rattle.std.proofs.Common.{◌≡◌, ◌++◌}
use Rattle.std.specs.List.{flat_map}
use Rattle.net_base.specs.Locations.{numbers_below}
use Rattle.evidence_summary.specs.Summary.{number_at_router}
use Rattle.evidence_summary.proofs.numbers.add_numbers.Given as goal

abbrev pub invariant-loop-node : goal.invariant-loop-node
invariant-loop-node l = l.numbers.items ≡ l.initial.numbers.items ++ flat_map (number_at_router l.net l.case) (numbers_below l.node)
