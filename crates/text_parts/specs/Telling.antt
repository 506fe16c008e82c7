-- How the faults of a kind of text are told.
use Rattle.std.specs.Prelude.{ℕ, List}

-- The number of each fault, its word, and its values, each after a space; and which one is want of memory.
pub record Telling (F : Type 0) : Type 0 where
  pub number_of : F → ℕ
  pub word_of : F → List ℕ
  pub values_of : F → List ℕ
  pub no_memory : F
