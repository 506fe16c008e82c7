use Rattle.std.proofs.Common.{◌≡◌, ◌++◌, drop}
use Rattle.reach_prune.specs.Searches.{is_marked}
use Rattle.reach_prune.specs.Trimmed.{nodes_kept}
use Rattle.reach_prune.proofs.trimming.nodes_kept.Given as goal

abbrev pub invariant-loop-i : goal.invariant-loop-i
invariant-loop-i l = l.list ++ nodes_kept (is_marked l.kept) l.i (drop l.i l.nodes) ≡ nodes_kept (is_marked l.kept) 0 l.nodes
