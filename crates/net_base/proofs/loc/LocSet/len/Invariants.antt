use Rattle.std.proofs.Common.{◌≡◌, ◌≤◌, ◌*◌, take}
use Rattle.std.specs.Prelude.{count_ones, sum_by}
use Rattle.net_base.proofs.loc.LocSet.len.Given as goal

abbrev pub invariant-loop-word : goal.invariant-loop-word
invariant-loop-word l = (l.size ≡ sum_by count_ones (take l.word-index l.word-items)) × (l.size ≤ 64 * l.word-index)
