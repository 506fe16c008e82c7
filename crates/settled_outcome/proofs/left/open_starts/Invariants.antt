use Rattle.std.proofs.Common.{◌≡◌, filter, take}
use Rattle.settled_outcome.specs.Surviving.{lives_by}
use Rattle.settled_outcome.proofs.left.open_starts.Given as goal

abbrev pub invariant-loop-start : goal.invariant-loop-start
invariant-loop-start l = l.starts ≡ filter (lives_by l.survivors l.graph) (take l.start-index l.start-items)
