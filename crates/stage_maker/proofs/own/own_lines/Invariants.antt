use Rattle.std.proofs.Common.{◌≡◌, ◌+◌, ◌++◌, drop}
use Rattle.stage_maker.specs.Joined.{own_from}
use Rattle.stage_maker.proofs.own.own_lines.Given as goal

abbrev pub invariant-loop-k : goal.invariant-loop-k
invariant-loop-k l = own_from l.cells 1 l.cells l.lines ≡ l.own ++ own_from l.cells (l.k + 1) (drop l.k l.cells) l.lines
