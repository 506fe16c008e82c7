use Rattle.std.proofs.Common.{◌≡◌, take, filter, not}
use Rattle.compare_report.specs.Groups.{seen}
use Rattle.compare_report.specs.Kinds.{is_carrier}
use Rattle.compare_report.proofs.places.other_carriers.Given as goal

abbrev pub invariant-loop-router : goal.invariant-loop-router
invariant-loop-router l = l.list.items ≡ filter (λ r. not (is_carrier l.fn.which (seen l.group) r)) (take l.router-index l.places)
