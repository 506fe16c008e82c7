use Rattle.std.proofs.Common.{◌≡◌, ◌+◌, ◌++◌, drop}
use Rattle.stage_blocks.specs.Merging.{spread}
use Rattle.stage_blocks.proofs.all_cells.spread.Given as goal

abbrev pub invariant-loop-k : goal.invariant-loop-k
invariant-loop-k g l =
    spread g.L.TagLine.tag_of g.L.TagLine.class_of g.L.TagLine.put 1 l.cells l.old l.new
    ≡ l.lines ++ spread g.L.TagLine.tag_of g.L.TagLine.class_of g.L.TagLine.put (l.k + 1) (drop l.k l.cells) l.old l.new
