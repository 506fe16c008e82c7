use Rattle.std.proofs.Common.{ℕ, ◌<◌, ◌≤◌, ◌^◌, slice_index_or}
use Rattle.node_quotient.proofs.first.bound.Given as goal

abbrev pub invariant-loop-number : goal.invariant-loop-number
invariant-loop-number l = record {
  few : l.bound ≤ 2 ^ 32;
  above : (k : ℕ) → k < l.number-index → slice_index_or l.numbers k 0 < l.bound;
}
