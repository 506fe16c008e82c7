use Rattle.std.proofs.Common.{◌≡◌, ℕ, zero, suc, ◌+◌, List, [], Option, Some, None, length, refl, ap, sym, ◌∙◌, arith}
use Rattle.std.specs.Prelude.{slice_get}
use Rattle.std.specs.Option.{option_and_then}
use Rattle.walk_states.specs.Table.{entry, number_in, Key}
use Rattle.walk_states.proofs.found.Found.new.Goals as goal

entry-nil : (place : ℕ) → entry [] place ≡ None
entry-nil zero = refl
entry-nil (suc place) = refl

key-nil : (place : ℕ) (k : Key) → slice_get [] place ≡ Some k → ⊥
key-nil zero k h = cc
key-nil (suc place) k h = cc

no-entry : (rows : List (Option ℕ)) (place row : ℕ) → rows ≡ [] → entry rows place ≡ Some row → ⊥
no-entry rows place row none h = let e : None ≡ Some row = sym (ap (λ l. entry l place) none ∙ entry-nil place) ∙ h in cc

no-number : (rows numbers : List (Option ℕ)) (k : Key) (n : ℕ) → rows ≡ [] → number_in rows numbers k ≡ Some n → ⊥
no-number rows numbers k n none h =
    let nothing = ap (λ l. entry l k.1) none ∙ entry-nil k.1 in
    let e : None ≡ Some n = sym (ap (option_and_then (λ row. entry numbers (row + k.0))) nothing) ∙ h in
    cc

pub invariant_of-result : goal.invariant_of-result
invariant_of-result c =
    let rows = c.new-2.result.items in
    let none = c.new-2.ensures.items in
    record {
      within = λ k d lt. absurd (omega (arith, lt, ap length c.new.ensures.items));
      inside = λ s row h. absurd (no-entry rows s row none h);
      apart = λ s t row other at on h _ _ _ _. absurd (no-entry rows s row none h);
      right = λ k n _ h. absurd (no-number rows c.new-3.result.items k n none h);
      found = λ k n h. absurd (key-nil n k (sym (ap (λ l. slice_get l n) c.new.ensures.items) ∙ h));
    }
