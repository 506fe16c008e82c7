use Rattle.std.proofs.Common.{◌≡◌, take, filter, not}
use Rattle.compare_report.specs.Groups.{seen}
use Rattle.compare_report.specs.Kinds.{is_one, router_place}
use Rattle.compare_report.proofs.places.other_routers.Given as goal

abbrev pub invariant-loop-router : goal.invariant-loop-router
invariant-loop-router l = l.list.items ≡ filter (λ r. not (is_one l.kind (seen l.group) (router_place r))) (take l.router-index l.places)
