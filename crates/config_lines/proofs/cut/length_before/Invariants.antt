use Rattle.std.proofs.Common.{◌≡◌, ℕ, ◌<◌, ◌≤◌, ◌-◌, length, false}
use Rattle.std.specs.Prelude.{◌==◌, slice_index_or}
use Rattle.config_lines.proofs.cut.length_before.Given as goal

abbrev pub invariant-loop-i : goal.invariant-loop-i
invariant-loop-i l = (l.i ≤ length l.bytes) × ((k : ℕ) → k < l.i → (slice_index_or l.bytes k 0 == l.sign) ≡ false)

abbrev pub decreases-loop-i : goal.decreases-loop-i
decreases-loop-i l = length l.bytes - l.i
