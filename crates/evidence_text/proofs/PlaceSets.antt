-- The set of some locations, one after another.
use Rattle.std.proofs.Common.{◌≡◌, ℕ, zero, suc, arith, ◌+◌, ◌<◌, Bool, true, false, List, [], ◌∷◌, length, take, get_or, refl, ap, ◌∙◌}
use Rattle.std.specs.Prelude.{◌||◌, ◌==◌, nat_eq}
use Rattle.std.specs.List.{AllByRecursion, list_any}
use Rattle.std.proofs.lemmas.List.{take_more}
use Rattle.std.proofs.lemmas.List.Folds.{list_any-append}

or_last : (a b : Bool) → (a || (b || false)) ≡ (a || b)
or_last true b = refl
or_last false true = refl
or_last false false = refl

-- one more of them
pub list_any-take_more : (m : ℕ) (ls : List ℕ) (i : ℕ) → i < length ls → list_any (nat_eq m) (take (i + 1) ls) ≡ (list_any (nat_eq m) (take i ls) || m == get_or ls i 0)
list_any-take_more m ls i low =
    ap (list_any (nat_eq m)) (take_more ls i 0 low) ∙ list_any-append (nat_eq m) (take i ls) (get_or ls i 0 ∷ []) ∙ or_last (list_any (nat_eq m) (take i ls)) (nat_eq m (get_or ls i 0))

pub all_at : (P : ℕ → Type 0) (ls : List ℕ) (i d : ℕ) → AllByRecursion P ls → i < length ls → P (get_or ls i d)
all_at P [] i d all low = absurd (omega arith)
all_at P (x ∷ xs) zero d all low = all.0
all_at P (x ∷ xs) (suc i) d all low = all_at P xs i d all.1 (omega arith)
