use Rattle.std.proofs.Common.{◌≡◌, ℕ, ◌/◌, ◌%◌, ◌<◌, not, ◌&&◌, ◌||◌, ◌==◌}
use Rattle.std.specs.Int.{bit_at}
use Rattle.std.specs.List.{list_any}
use Rattle.bit_rows.proofs.members.add_members_of_word.Given as goal

abbrev pub invariant-loop-left : goal.invariant-loop-left
invariant-loop-left l = record {
  of : (j : ℕ) → j < 64 → bit_at l.left j ≡ 1 → bit_at l.word j ≡ 1;
  listed : (k : ℕ) → list_any (λ x. x == k) l.list.items ≡ (list_any (λ x. x == k) l.initial.list.items || (k / 64 == l.place && (bit_at l.word (k % 64) == 1 && not (bit_at l.left (k % 64) == 1))));
}

abbrev pub decreases-loop-left : goal.decreases-loop-left
decreases-loop-left l = l.left
