use Rattle.std.proofs.Common.{◌≡◌, ◌≤◌, take}
use Rattle.std.specs.List.{count_by}
use Rattle.policy_base.specs.Walks.{is_loop_free}
use Rattle.pair_changes.proofs.walks.paths.Given as goal

abbrev pub invariant-loop-walk : goal.invariant-loop-walk
invariant-loop-walk l = (l.count ≡ count_by is_loop_free (take l.walk-index l.walks)) × (l.count ≤ l.walk-index)
