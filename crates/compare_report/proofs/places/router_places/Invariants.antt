use Rattle.std.proofs.Common.{◌≡◌, take, filter}
use Rattle.compare_report.specs.Groups.{seen}
use Rattle.compare_report.specs.Kinds.{is_router_place}
use Rattle.compare_report.proofs.places.router_places.Given as goal

abbrev pub invariant-loop-router : goal.invariant-loop-router
invariant-loop-router l = l.places.items ≡ filter (is_router_place l.net (seen l.group)) (take l.router-index l.router-items)
