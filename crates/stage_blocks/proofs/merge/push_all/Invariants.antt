use Rattle.std.proofs.Common.{◌≡◌, ◌++◌, take, map}
use Rattle.stage_blocks.proofs.merge.push_all.Given as goal

abbrev pub invariant-loop-line : goal.invariant-loop-line
invariant-loop-line g l = l.lines ≡ l.initial.lines ++ map (g.L.TagLine.put l.class) (take l.line-index l.more)
