-- Steps that may fail: the first fault is the answer.
use Rattle.std.specs.Prelude.{ℕ, ◌+◌, Bool, true, false, Option, Some, None, Result, Ok, Err, ⊤, List, [], ◌∷◌}

infixl 10 ◌>>=◌
abbrev pub ◌>>=◌ : {A B F : Type 0} → Result A F → (A → Result B F) → Result B F
(Ok x) >>= f = f x
(Err e) >>= f = Err e

-- the value, or this fault where there is none
abbrev pub or_fault : {A F : Type 0} → F → Option A → Result A F
or_fault e (Some x) = Ok x
or_fault e None = Err e

-- this fault, unless the test holds
abbrev pub unless : {F : Type 0} → F → Bool → Result ⊤ F
unless e true = Ok tt
unless e false = Err e

-- each of them in order, with its place, from k on
abbrev pub each_from : {A B F : Type 0} → (ℕ → A → Result B F) → ℕ → List A → Result (List B) F
each_from f k [] = Ok []
each_from f k (x ∷ xs) = do
  y ← f k x
  ys ← each_from f (k + 1) xs
  Ok (y ∷ ys)
