use Rattle.std.proofs.Common.{◌≡◌, ℕ, ◌<◌, ◌≤◌, length}
use Rattle.std.specs.Prelude.{slice_index, bit_or}
use Rattle.net_base.proofs.words.either.Given as goal

abbrev pub invariant-loop-i : goal.invariant-loop-i
invariant-loop-i l = record {
  size : length l.words ≡ 12;
  joined : (k : ℕ) → k < l.i → slice_index l.words k ≡ bit_or (slice_index l.fn.a.words k) (slice_index l.b.words k);
  ahead : (k : ℕ) → l.i ≤ k → slice_index l.words k ≡ slice_index l.fn.a.words k;
}
