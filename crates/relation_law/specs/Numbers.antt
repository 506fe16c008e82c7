-- Numbers that meet the rules, and those that a total relation gives.
use Rattle.std.specs.Prelude.{ℕ, ◌+◌, ◌≤◌, zero, suc, Bool, false, not, ◌&&◌, ◌||◌, nat_le, if◌then◌else◌}
use Rattle.relation_law.specs.Views.{View}
use Rattle.relation_law.specs.Relations.{Pair, Meets}

-- numbers that meet the rules, where a may stand at least as high as b if its number is at least that of b
abbrev pub AreNumbers : View → (ℕ → ℕ) → Type 0
AreNumbers v number = (m n : ℕ) → Pair v m n → number n ≤ number m → Meets v (λ a b. nat_le (number b) (number a)) m n

-- some number below the bound passes
abbrev pub any_below : ℕ → (ℕ → Bool) → Bool
any_below zero p = false
any_below (suc n) p = p n || any_below n p

-- how many numbers below the bound pass
abbrev pub count_below : ℕ → (ℕ → Bool) → ℕ
count_below zero p = 0
count_below (suc n) p = (if p n then 1 else 0) + count_below n p

-- p stands strictly lower than m
abbrev pub is_lower : (ℕ → ℕ → Bool) → ℕ → ℕ → Bool
is_lower r p m = r m p && not (r p m)

-- the least of its equals, which stands for their class
abbrev pub is_first : (ℕ → ℕ → Bool) → ℕ → Bool
is_first r p = not (any_below p (λ q. r p q && r q p))

-- 100, and one for each class that stands strictly lower
abbrev pub number_of : ℕ → (ℕ → ℕ → Bool) → ℕ → ℕ
number_of size r m = 100 + count_below size (λ p. is_first r p && is_lower r p m)
