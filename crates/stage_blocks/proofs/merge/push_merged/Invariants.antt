use Rattle.std.proofs.Common.{◌≡◌, ◌++◌, drop, map}
use Rattle.stage_blocks.specs.Merging.{merged}
use Rattle.stage_blocks.proofs.merge.push_merged.Given as goal

abbrev pub invariant-loop-line : goal.invariant-loop-line
invariant-loop-line g l =
    l.initial.lines ++ map (g.L.TagLine.put l.class) (merged g.L.TagLine.tag_of l.old l.new)
    ≡ l.lines ++ map (g.L.TagLine.put l.class) (merged g.L.TagLine.tag_of (drop l.line-index l.old) l.others)
