use Rattle.std.proofs.Common.{◌≡◌, take}
use Rattle.map_maker.proofs.copies.routers_copy.Given as goal

abbrev pub invariant-loop-router : goal.invariant-loop-router
invariant-loop-router l = l.copy ≡ take l.router-index l.routers
