use Rattle.std.proofs.Common.{◌≡◌, ◌++◌, map, take}
use Rattle.walk_check.specs.WaysOf.{start_way}
use Rattle.walk_check.proofs.ways.add_starts.Given as goal

abbrev pub invariant-loop-start : goal.invariant-loop-start
invariant-loop-start l = l.ways.items ≡ l.fn.ways.items ++ map (start_way l.graph l.first l.root) (take l.start-index l.start-items)
