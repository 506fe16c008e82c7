-- A queue in which nothing waits, and one without its last message.
use Rattle.std.specs.Prelude.{◌-◌, Bool, true, false, List, [], ◌∷◌, length, take}

abbrev pub is_idle : {A : Type 0} → List A → Bool
is_idle [] = true
is_idle (m ∷ ms) = false

abbrev pub without_last : {A : Type 0} → List A → List A
without_last ms = take (length ms - 1) ms
