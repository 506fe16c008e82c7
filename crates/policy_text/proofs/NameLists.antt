-- The names of sets.
use Rattle.std.proofs.Common.{◌≡◌, ℕ, ◌+◌, List, [], ◌∷◌, ◌++◌, length, Bool, true, false, ap, ◌∙◌, arith}
use Rattle.std.specs.Prelude.{if◌then◌else◌}
use Rattle.net_base.specs.declared.loc.LocSet.{LocSet}
use Rattle.net_base.specs.declared.net.Site.{Site}
use Rattle.net_base.specs.Sets.{holds}
use Rattle.policy_text.specs.PolicyText.{names_from}

one_more : (b : Bool) (n : List ℕ) (whole front back : List (List ℕ)) → whole ≡ front ++ back → (if b then n ∷ whole else whole) ≡ (if b then n ∷ front else front) ++ back
one_more true n whole front back e = ap (λ (x : List (List ℕ)). n ∷ x) e
one_more false n whole front back e = e

-- the names of some sites and of more
pub names_from-append : (s : LocSet) (l : ℕ) (xs ys : List Site) → names_from s l (xs ++ ys) ≡ names_from s l xs ++ names_from s (l + length xs) ys
names_from-append s l [] ys = ap (λ (n : ℕ). names_from s n ys) (omega arith)
names_from-append s l (x ∷ xs) ys =
    let place : l + 1 + length xs ≡ l + length (x ∷ xs) = omega arith in
    one_more (holds s l) x.name _ _ _ (names_from-append s (l + 1) xs ys ∙ ap (λ (n : ℕ). names_from s (l + 1) xs ++ names_from s n ys) place)
