use Rattle.std.proofs.Common.{◌≡◌, take, filter}
use Rattle.net_base.specs.Sets.{holds}
use Rattle.compare_lines.proofs.routers.held.Given as goal

abbrev pub invariant-loop-router : goal.invariant-loop-router
invariant-loop-router l = l.list.items ≡ filter (holds l.set) (take l.router-index l.routers)
