use Rattle.std.proofs.Common.{◌≡◌, ℕ, ◌<◌, true, slice_index}
use Rattle.net_base.specs.Sets.{holds}
use Rattle.graph_base.specs.Runs.{place_of}
use Rattle.walk_check.proofs.formed.starts_fit.Given as goal

abbrev pub invariant-loop-start : goal.invariant-loop-start
invariant-loop-start l = (k : ℕ) → k < l.start-index → holds l.case.origins (place_of l.graph (slice_index l.start-items k)) ≡ true
