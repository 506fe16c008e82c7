use Rattle.std.proofs.Common.{◌≡◌, ℕ, IsTrue, true, take, eqb}
use Rattle.std.specs.List.{list_any}
use Rattle.preference_check.specs.Rows.{has_upto}
use Rattle.preference_check.proofs.low_row.LowRow.is_as_low.Given as goal

abbrev pub invariant-loop-place : goal.invariant-loop-place
invariant-loop-place l = (p n : ℕ) → list_any (λ x. eqb x p) (take l.place-index l.place-items) ≡ true → IsTrue (has_upto l.other.least.items p n) → IsTrue (has_upto l.self.least.items p n)
