-- The first pair of nodes that breaks a rule.
use Rattle.std.specs.Prelude.{◌≡◌, ◌⊎◌, ℕ, ◌<◌, Option, Some, None}

-- the least number that breaks a rule
pub record IsFirst (Keeps : ℕ → Type 0) (n : ℕ) : Type 0 where
  pub fails : Keeps n → ⊥
  pub before : (q : ℕ) → q < n → Keeps q

abbrev pub IsFirstOrNone : (ℕ → Type 0) → Option ℕ → Type 0
IsFirstOrNone Keeps None = (n : ℕ) → Keeps n
IsFirstOrNone Keeps (Some n) = IsFirst Keeps n

-- a pair comes before another: its first node is the lesser one, or the same and its second node the lesser one
abbrev pub IsEarlier : ℕ × ℕ → ℕ × ℕ → Type 0
IsEarlier one other = (one.0 < other.0) ⊎ ((one.0 ≡ other.0) × (one.1 < other.1))

-- a pair breaks a rule that all earlier pairs keep
pub record IsFirstPair (Keeps : ℕ → ℕ → Type 0) (pair : ℕ × ℕ) : Type 0 where
  pub fails : Keeps pair.0 pair.1 → ⊥
  pub before : (m n : ℕ) → IsEarlier (m, n) pair → Keeps m n

-- the first pair that breaks the rule; none where every pair keeps it
abbrev pub IsFirstPairOrNone : (ℕ → ℕ → Type 0) → Option (ℕ × ℕ) → Type 0
IsFirstPairOrNone Keeps None = (m n : ℕ) → Keeps m n
IsFirstPairOrNone Keeps (Some pair) = IsFirstPair Keeps pair
