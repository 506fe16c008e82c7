-- Which step decided, and what a step that failed tells.
use Rattle.std.proofs.Common.{◌≡◌, ℕ, ◌+◌, List, [], ◌∷◌, Option, Some, None, Result, Ok, Err, Bool, true, false, refl, sym}
use Rattle.std.specs.List.{AllByRecursion}
use Rattle.net_base.specs.Steps.{◌>>=◌, or_fault, unless, each_from}
use Rattle.net_base.proofs.StepLemmas.{err_same, ok_not_err}

-- either the first step decided, or it went well and the rest did
pub bind_case : {A B F : Type 0} (C : Type 0) (r : Result A F) (f : A → Result B F) (y : Result B F) → (r >>= f) ≡ y → ((e : F) → r ≡ Err e → y ≡ Err e → C) → ((x : A) → r ≡ Ok x → f x ≡ y → C) → C
bind_case C (Ok x) f y h here later = later x refl h
bind_case C (Err e) f y h here later = here e refl (sym h)

pub unless_err : {F : Type 0} (e f : F) (b : Bool) → unless e b ≡ Err f → (e ≡ f) × (b ≡ false)
unless_err e f true h = absurd cc
unless_err e f false h = (cc, refl)

pub or_fault_err : {A F : Type 0} (e f : F) (o : Option A) → or_fault e o ≡ Err f → (e ≡ f) × (o ≡ None)
or_fault_err e f (Some x) h = absurd cc
or_fault_err e f None h = (cc, refl)

-- where a step fails only at items without a property, not all items have it
pub each_from-breaks : {A B F : Type 0} (P : A → Type 0) (Q : F → Type 0) (f : ℕ → A → Result B F) → ((k : ℕ) (x : A) (e : F) → f k x ≡ Err e → (P x → ⊥) × Q e)
    → (k : ℕ) (xs : List A) (e : F) → each_from f k xs ≡ Err e → (AllByRecursion P xs → ⊥) × Q e
each_from-breaks P Q f each k [] e h = absurd cc
each_from-breaks P Q f each k (x ∷ xs) e h =
    bind_case ((AllByRecursion P (x ∷ xs) → ⊥) × Q e) (f k x) (λ y. each_from f (k + 1) xs >>= (λ ys. Ok (y ∷ ys))) (Err e) h
    (λ d p same. let q = each k x d p in ((λ a. q.0 a.0), rw (err_same e d same) q.1))
    (λ y _ g. bind_case ((AllByRecursion P (x ∷ xs) → ⊥) × Q e) (each_from f (k + 1) xs) (λ ys. Ok (y ∷ ys)) (Err e) g
    (λ d p same. let q = each_from-breaks P Q f each (k + 1) xs d p in ((λ a. q.0 a.1), rw (err_same e d same) q.1))
    (λ ys _ k. absurd (ok_not_err (y ∷ ys) e k)))
