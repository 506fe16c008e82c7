-- Steps that tell faults of one kind alone.
use Rattle.std.proofs.Common.{◌≡◌, ℕ, ◌+◌, List, [], ◌∷◌, Option, Some, None, Result, Ok, Err, Bool, true, false, refl, subst}
use Rattle.std.specs.Prelude.{⊤, if◌then◌else◌}
use Rattle.net_base.specs.Steps.{◌>>=◌, or_fault, unless, each_from}
use Rattle.net_base.proofs.StepLemmas.{err_same}

-- the result is no fault but one of these
abbrev pub Only : {A F : Type 0} → (F → Type 0) → Result A F → Type 0
Only P (Ok x) = Unit {0}
Only P (Err e) = P e

pub only_bind : {A B F : Type 0} (P : F → Type 0) (r : Result A F) (f : A → Result B F) → Only P r → ((x : A) → Only P (f x)) → Only P (r >>= f)
only_bind P (Ok x) f here later = later x
only_bind P (Err e) f here later = here

pub only_or : {A F : Type 0} (P : F → Type 0) (e : F) (o : Option A) → P e → Only P (or_fault e o)
only_or P e (Some x) is = tt
only_or P e None is = is

pub only_unless : {F : Type 0} (P : F → Type 0) (e : F) (b : Bool) → P e → Only P (unless e b)
only_unless P e true is = tt
only_unless P e false is = is

pub only_if : {A F : Type 0} (P : F → Type 0) (b : Bool) (r s : Result A F) → Only P r → Only P s → Only P (if b then r else s)
only_if P true r s one other = one
only_if P false r s one other = other

pub only_each_from : {A B F : Type 0} (P : F → Type 0) (f : ℕ → A → Result B F) → ((k : ℕ) (x : A) → Only P (f k x)) → (k : ℕ) (xs : List A) → Only P (each_from f k xs)
only_each_from P f one k [] = tt
only_each_from P f one k (x ∷ xs) =
    only_bind P (f k x) (λ y. each_from f (k + 1) xs >>= (λ ys. Ok (y ∷ ys))) (one k x)
    (λ y. only_bind P (each_from f (k + 1) xs) (λ ys. Ok (y ∷ ys)) (only_each_from P f one (k + 1) xs) (λ ys. tt))

pub only_each : {A B F : Type 0} (P : F → Type 0) (f : A → Result B F) → ((x : A) → Only P (f x)) → (k : ℕ) (xs : List A) → Only P (each_from (λ _. f) k xs)
only_each P f one k xs = only_each_from P (λ _. f) (λ _. one) k xs

-- the fault that was told
pub only_err : {A F : Type 0} (P : F → Type 0) (r : Result A F) (e : F) → Only P r → r ≡ Err e → P e
only_err P (Ok x) e only h = absurd cc
only_err P (Err d) e only h = subst P (err_same d e h) only

-- ---- faults of one kind, each of which names a part

module _ {P F : Type 0} (fault : P → F) where
  abbrev pub IsOf : F → Type 0
  IsOf e = (part : P) × (e ≡ fault part)

  pub or_only : {A : Type 0} (part : P) (o : Option A) → Only IsOf (or_fault (fault part) o)
  or_only part o = only_or IsOf (fault part) o (part, refl)

  -- a step has such faults alone, and so have those behind it
  pub or_then : {A B : Type 0} (part : P) (o : Option A) (f : A → Result B F) → ((x : A) → Only IsOf (f x)) → Only IsOf (or_fault (fault part) o >>= f)
  or_then part o f later = only_bind IsOf (or_fault (fault part) o) f (or_only part o) later

  pub unless_then : {B : Type 0} (part : P) (b : Bool) (f : ⊤ → Result B F) → ((x : ⊤) → Only IsOf (f x)) → Only IsOf (unless (fault part) b >>= f)
  unless_then part b f later = only_bind IsOf (unless (fault part) b) f (only_unless IsOf (fault part) b (part, refl)) later
