use Rattle.std.proofs.Common.{◌≡◌, ℕ, ◌&&◌, nat_lt}
use Rattle.std.specs.Option.{is_some}
use Rattle.graph_base.specs.Runs.{rank_at}
use Rattle.reach_prune.specs.Searches.{is_among}
use Rattle.reach_prune.proofs.trimming.ranked_nodes.Given as goal

abbrev pub invariant-loop-i : goal.invariant-loop-i
invariant-loop-i l = (n : ℕ) → is_among l.ranked.items n ≡ (nat_lt n l.i && is_some (rank_at l.graph n))
