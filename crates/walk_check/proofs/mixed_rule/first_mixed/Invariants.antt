use Rattle.std.proofs.Common.{◌≡◌, ℕ, ◌<◌, false}
use Rattle.std.specs.Prelude.{◌&&◌, is_none}
use Rattle.net_base.specs.Sets.{holds}
use Rattle.graph_base.specs.Runs.{place_of, rank_at}
use Rattle.walk_check.proofs.mixed_rule.first_mixed.Given as goal

abbrev pub invariant-loop-node : goal.invariant-loop-node
invariant-loop-node l = (n : ℕ) → n < l.node → (holds l.claimed (place_of l.graph n) && is_none (rank_at l.graph n)) ≡ false
