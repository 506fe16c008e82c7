use Rattle.std.proofs.Common.{◌≡◌, ℕ, ◌/◌, ◌&&◌, ◌||◌, ◌==◌, nat_lt}
use Rattle.std.specs.List.{list_any}
use Rattle.bit_rows.specs.Bits.{has}
use Rattle.bit_rows.proofs.members.add_members.Given as goal

abbrev pub invariant-loop-i : goal.invariant-loop-i
invariant-loop-i l = (k : ℕ) → list_any (λ x. x == k) l.list.items ≡ (list_any (λ x. x == k) l.initial.list.items || (nat_lt (k / 64) l.i && has l.row k))
