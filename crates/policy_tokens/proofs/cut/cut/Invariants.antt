use Rattle.std.proofs.Common.{◌≡◌, length}
use Rattle.policy_tokens.specs.Places.{first_place}
use Rattle.policy_tokens.specs.Ahead.{ahead_of, from_next, IsToken}
use Rattle.policy_tokens.proofs.Onward.{with_found}
use Rattle.policy_tokens.proofs.cut.cut.Given as goal

abbrev pub invariant-loop-next : goal.invariant-loop-next
invariant-loop-next l = record {
  so_far : with_found l.found.items (from_next l.bytes l.next) ≡ ahead_of l.bytes 0 first_place;
  stands : IsToken l.bytes l.next;
}

abbrev pub decreases-loop-next : goal.decreases-loop-next
decreases-loop-next l = length (from_next l.bytes l.next).0
