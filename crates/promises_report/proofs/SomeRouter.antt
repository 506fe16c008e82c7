-- Whether some number below another passes a test.
use Rattle.std.proofs.Common.{◌≡◌, ℕ, ◌+◌, ◌<◌, ◌≤◌, Bool, true, false, inl, inr, sym, ap, ◌∙◌, arith}
use Rattle.std.specs.Prelude.{◌⊎◌}
use Rattle.std.specs.List.{list_any}
use Rattle.std.proofs.lemmas.Bool.{cases_lt, false_from_ne_true, true≢false}
use Rattle.list_law.proofs.Members.{list_any-from_IsIn, list_any_member}
use Rattle.net_base.specs.Locations.{numbers_below}
use Rattle.net_base.proofs.NumbersBelow.{In-numbers_below, below_from_In}

pub some_passes : (p : ℕ → Bool) (k n : ℕ) → k < n → p k ≡ true → list_any p (numbers_below n) ≡ true
some_passes p k n less here = list_any-from_IsIn p (numbers_below n) k (In-numbers_below k n less) here

pub none_more : (p : ℕ → Bool) (n : ℕ) → list_any p (numbers_below n) ≡ false → p n ≡ false → list_any p (numbers_below (n + 1)) ≡ false
none_more p n none last = false_from_ne_true _ (λ h.
    let m = list_any_member p (numbers_below (n + 1)) h in
    by m.0 m.2 (below_from_In m.0 (n + 1) m.1) (cases_lt m.0 n))
  where
    by : (k : ℕ) → p k ≡ true → k < n + 1 → (k < n) ⊎ (n ≤ k) → ⊥
    by k here within (inl less) = true≢false (sym (some_passes p k n less here) ∙ none)
    by k here within (inr more) = let same : k ≡ n = omega (arith, within, more) in true≢false (sym here ∙ ap p same ∙ last)
