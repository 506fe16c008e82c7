use Rattle.std.proofs.Common.{◌≡◌, ◌++◌, filter, map, take}
use Rattle.stage_maker.specs.Joined.{belongs, put_own}
use Rattle.stage_maker.proofs.own.push_cell.Given as goal

abbrev pub invariant-loop-line : goal.invariant-loop-line
invariant-loop-line l = l.own ≡ l.initial.own ++ map (put_own l.class) (filter (belongs l.cells l.class l.cell) (take l.line-index l.lines))
