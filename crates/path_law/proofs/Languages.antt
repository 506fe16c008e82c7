-- Laws of languages.
use Rattle.std.proofs.Common.{◌≡◌, ℕ, List, [], ◌∷◌, Bool, true, false, ◌&&◌, ◌||◌, refl, sym, ap, ◌∙◌}
use Rattle.std.proofs.Math.Bool.{and-false, and-or_distrib_right, and-true, and_assoc, or-false, and-or_distrib_left}
use Rattle.list_law.proofs.Truth.{or_or_or_comm}
use Rattle.path_exprs.specs.Language.{Language, nothing, divides, goes_on, repeats}

-- the two hold the same lists
abbrev pub Same : Language → Language → Type 0
Same p q = (xs : List ℕ) → p xs ≡ q xs

-- divides takes equal languages to equal ones
pub divides_same : (p p' q q' : Language) → Same p p' → Same q q' → Same (divides p q) (divides p' q')
divides_same p p' q q' e f xs =
    let ep : p ≡ p' = λ i. λ ys. e ys i in
    let eq : q ≡ q' = λ i. λ ys. f ys i in
    ap (λ r. divides r q xs) ep ∙ ap (λ r. divides p' r xs) eq

pub divides-or : (u v q : Language) (xs : List ℕ) → divides (λ ys. u ys || v ys) q xs ≡ (divides u q xs || divides v q xs)
divides-or u v q [] = and-or_distrib_right (u []) (v []) (q [])
divides-or u v q (x ∷ xs) =
    ap (λ b. ((u [] || v []) && q (x ∷ xs)) || b) (divides-or (λ ys. u (x ∷ ys)) (λ ys. v (x ∷ ys)) q xs)
    ∙ ap (λ b. b || (divides (λ ys. u (x ∷ ys)) q xs || divides (λ ys. v (x ∷ ys)) q xs)) (and-or_distrib_right (u []) (v []) (q (x ∷ xs)))
    ∙ or_or_or_comm (u [] && q (x ∷ xs)) (v [] && q (x ∷ xs)) (divides (λ ys. u (x ∷ ys)) q xs) (divides (λ ys. v (x ∷ ys)) q xs)

pub divides-and : (b : Bool) (u q : Language) (xs : List ℕ) → divides (λ ys. b && u ys) q xs ≡ (b && divides u q xs)
divides-and b u q [] = and_assoc b (u []) (q [])
divides-and b u q (x ∷ xs) =
    ap (λ c. ((b && u []) && q (x ∷ xs)) || c) (divides-and b (λ ys. u (x ∷ ys)) q xs)
    ∙ ap (λ c. c || (b && divides (λ ys. u (x ∷ ys)) q xs)) (and_assoc b (u []) (q (x ∷ xs)))
    ∙ sym (and-or_distrib_left b (u [] && q (x ∷ xs)) (divides (λ ys. u (x ∷ ys)) q xs))

regroup : (a b c d e : Bool) → (((a && b) && c) || ((a && d) || e)) ≡ ((a && ((b && c) || d)) || e)
regroup true true true d e = refl
regroup true true false d e = refl
regroup true false c d e = refl
regroup false b c d e = refl

pub divides_assoc : (p q r : Language) (xs : List ℕ) → divides (divides p q) r xs ≡ divides p (divides q r) xs
divides_assoc p q r [] = and_assoc (p []) (q []) (r [])
divides_assoc p q r (x ∷ xs) =
    let px : Language = λ ys. p (x ∷ ys) in
    let qx : Language = λ ys. q (x ∷ ys) in
    ap (λ c. ((p [] && q []) && r (x ∷ xs)) || c)
    (divides-or (λ ys. p [] && qx ys) (divides px q) r xs
    ∙ ap (λ c. c || divides (divides px q) r xs) (divides-and (p []) qx r xs)
    ∙ ap (λ c. (p [] && divides qx r xs) || c) (divides_assoc px q r xs))
    ∙ regroup (p []) (q []) (r (x ∷ xs)) (divides qx r xs) (divides px (divides q r) xs)

pub divides-none_left : (q : Language) (xs : List ℕ) → divides (λ ys. false) q xs ≡ false
divides-none_left q [] = refl
divides-none_left q (x ∷ xs) = divides-none_left q xs

pub divides-nothing_left : (q : Language) (xs : List ℕ) → divides nothing q xs ≡ q xs
divides-nothing_left q [] = refl
divides-nothing_left q (x ∷ xs) = ap (λ b. q (x ∷ xs) || b) (divides-none_left q xs) ∙ or-false (q (x ∷ xs))

pub divides-none_right : (p : Language) (xs : List ℕ) → divides p (λ ys. false) xs ≡ false
divides-none_right p [] = and-false (p [])
divides-none_right p (x ∷ xs) = ap (λ b. b || divides (λ ys. p (x ∷ ys)) (λ ys. false) xs) (and-false (p [])) ∙ divides-none_right (λ ys. p (x ∷ ys)) xs

pub divides-nothing_right : (p : Language) (xs : List ℕ) → divides p nothing xs ≡ p xs
divides-nothing_right p [] = and-true (p [])
divides-nothing_right p (x ∷ xs) = ap (λ b. b || divides (λ ys. p (x ∷ ys)) nothing xs) (and-false (p [])) ∙ divides-nothing_right (λ ys. p (x ∷ ys)) xs

-- a first piece, and then more
pub goes_on-divides : (p q : Language) (xs : List ℕ) → goes_on p q xs ≡ divides q (repeats p) xs
goes_on-divides p q [] = sym (and-true (q []))
goes_on-divides p q (x ∷ xs) = ap (λ b. (q [] && goes_on p (λ ys. p (x ∷ ys)) xs) || b) (goes_on-divides p (λ ys. q (x ∷ ys)) xs)
