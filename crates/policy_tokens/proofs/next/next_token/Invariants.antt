use Rattle.std.proofs.Common.{◌≡◌, length, drop}
use Rattle.policy_tokens.specs.Ahead.{ahead_of, IsPlace}
use Rattle.policy_tokens.proofs.next.next_token.Given as goal

abbrev pub invariant-loop-rest : goal.invariant-loop-rest
invariant-loop-rest l = record {
  so_far : ahead_of l.bytes l.at l.here ≡ ahead_of l.bytes l.fn.from l.fn.place;
  left : l.rest ≡ drop l.at l.bytes;
  place : IsPlace l.bytes l.at l.here;
}

abbrev pub decreases-loop-rest : goal.decreases-loop-rest
decreases-loop-rest l = length l.rest
