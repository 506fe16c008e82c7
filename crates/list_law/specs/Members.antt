-- What is in a list.
use Rattle.std.specs.Prelude.{◌≡◌, ℕ, List, Some, slice_get}

-- the item is in the list
abbrev pub IsIn : {A : Type 0} → List A → A → Type 0
IsIn xs x = (i : ℕ) × (slice_get xs i ≡ Some x)
