use Rattle.std.proofs.Common.{◌≡◌, ◌++◌, drop}
use Rattle.stage_maker.specs.Joined.{routers_of}
use Rattle.stage_maker.proofs.join.joined_routers.Given as goal

abbrev pub invariant-loop-i : goal.invariant-loop-i
invariant-loop-i l = routers_of l.cells l.start l.other ≡ l.routers ++ routers_of l.cells (drop l.i l.start) (drop l.i l.other)
