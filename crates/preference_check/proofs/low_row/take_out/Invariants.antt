use Rattle.std.proofs.Common.{◌≡◌, ℕ, None, true, false, get_or, take, eqb}
use Rattle.std.specs.List.{list_any}
use Rattle.preference_check.proofs.low_row.take_out.Given as goal

abbrev pub invariant-loop-place : goal.invariant-loop-place
invariant-loop-place l = record {
  out : (p : ℕ) → list_any (λ x. eqb x p) (take l.place-index l.places) ≡ true → get_or l.least.items p None ≡ None;
  kept : (p : ℕ) → list_any (λ x. eqb x p) (take l.place-index l.places) ≡ false → get_or l.least.items p None ≡ get_or l.initial.least.items p None;
}
