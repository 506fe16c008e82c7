use Rattle.std.proofs.Common.{◌≡◌, take, min}
use Rattle.std.specs.Prelude.{sum_by}
use Rattle.map_maker.specs.Counts.{lines_of_router}
use Rattle.map_maker.specs.Earlier.{top}
use Rattle.map_maker.proofs.counts.routers_lines.Given as goal

abbrev pub invariant-loop-router : goal.invariant-loop-router
invariant-loop-router l = l.total ≡ min (sum_by lines_of_router (take l.router-index l.routers)) top
