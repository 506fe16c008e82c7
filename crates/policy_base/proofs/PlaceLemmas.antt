-- The places of a list, as code reads them.
use Rattle.std.proofs.Common.{◌≡◌, ◌≢◌, ℕ, zero, suc, ◌-◌, ◌≤◌, Bool, true, false, ◌&&◌, ◌||◌, List, [], ◌∷◌, length, take, refl, sym, ap, ◌∙◌, arith}
use Rattle.std.specs.Prelude.{Some, slice_get}
use Rattle.std.proofs.Math.Bool.{and-false}
use Rattle.net_base.specs.declared.loc.LocSet.{LocSet}
use Rattle.net_base.specs.Network.{PlainNet, linked}
use Rattle.net_base.specs.Sets.{holds}
use Rattle.policy_base.specs.Meaning.{at_last, front, some_step, each_in}
use Rattle.policy_base.specs.Walks.{steps_linked}

take-front_by : (x : ℕ) (xs : List ℕ) → take (length xs) (x ∷ xs) ≡ front (x ∷ xs)
take-front_by x [] = refl
take-front_by x (y ∷ ys) = ap (λ zs. x ∷ zs) (take-front_by y ys)

-- the front is all but one
pub take-front : (xs : List ℕ) → take (length xs - 1) xs ≡ front xs
take-front [] = refl
take-front (x ∷ xs) = let e : suc (length xs) - 1 ≡ length xs = omega arith in ap (λ n. take n (x ∷ xs)) e ∙ take-front_by x xs

last_by : (p : ℕ → Bool) (x : ℕ) (xs : List ℕ) (l : ℕ) → slice_get (x ∷ xs) (length xs) ≡ Some l → at_last p (x ∷ xs) ≡ p l
last_by p x [] l some = let e : x ≡ l = cc in ap p e
last_by p x (y ∷ ys) l some = last_by p y ys l some

-- the last place, as a slice gives it
pub at_last_some : (p : ℕ → Bool) (xs : List ℕ) (l : ℕ) → slice_get xs (length xs - 1) ≡ Some l → at_last p xs ≡ p l
at_last_some p [] l some = cc
at_last_some p (x ∷ xs) l some =
    let e : suc (length xs) - 1 ≡ length xs = omega arith in
    last_by p x xs l (ap (slice_get (x ∷ xs)) (sym e) ∙ some)

pub some_step-next : (p : ℕ → ℕ → Bool) (x y : ℕ) (ys : List ℕ) → p x y ≡ false → some_step p (x ∷ y ∷ ys) ≡ some_step p (y ∷ ys)
some_step-next p x y ys off = ap (λ b. b || some_step p (y ∷ ys)) off

pub steps_linked-next : (net : PlainNet) (x y : ℕ) (ys : List ℕ) → linked net x y ≡ true → steps_linked net (x ∷ y ∷ ys) ≡ steps_linked net (y ∷ ys)
steps_linked-next net x y ys on = ap (λ b. b && steps_linked net (y ∷ ys)) on

-- a list of one place or none has no step
pub some_step_short : (p : ℕ → ℕ → Bool) (xs : List ℕ) → length xs ≤ 1 → some_step p xs ≡ false
some_step_short p [] short = refl
some_step_short p (x ∷ []) short = refl
some_step_short p (x ∷ y ∷ ys) short = absurd (omega arith)

pub steps_linked_short : (net : PlainNet) (xs : List ℕ) → length xs ≤ 1 → steps_linked net xs ≡ true
steps_linked_short net [] short = refl
steps_linked_short net (x ∷ []) short = refl
steps_linked_short net (x ∷ y ∷ ys) short = absurd (omega arith)

-- as many places as sets, or none
pub each_in-lengths : (sets : List LocSet) (xs : List ℕ) → length sets ≢ length xs → each_in sets xs ≡ false
each_in-lengths [] [] apart = absurd (apart refl)
each_in-lengths [] (x ∷ xs) apart = refl
each_in-lengths (s ∷ ss) [] apart = refl
each_in-lengths (s ∷ ss) (x ∷ xs) apart = ap (λ b. holds s x && b) (each_in-lengths ss xs (λ e. apart (ap suc e))) ∙ and-false (holds s x)
