use Rattle.std.proofs.Common.{◌≡◌, ◌+◌, drop}
use Rattle.stage_blocks.specs.Merging.{count_below}
use Rattle.stage_blocks.proofs.merge.count_below.Given as goal

abbrev pub invariant-loop-i : goal.invariant-loop-i
invariant-loop-i g l = count_below g.L.TagLine.tag_of l.tag l.lines ≡ l.i + count_below g.L.TagLine.tag_of l.tag (drop l.i l.lines)
