use Rattle.std.proofs.Common.{◌≡◌, ℕ, take, filter, not}
use Rattle.net_base.specs.Sets.{holds}
use Rattle.compare_lines.proofs.routers.not_held.Given as goal

abbrev pub invariant-loop-router : goal.invariant-loop-router
invariant-loop-router l = l.list.items ≡ filter (λ (r : ℕ). not (holds l.set r)) (take l.router-index l.routers)
