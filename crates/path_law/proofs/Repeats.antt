-- Laws of repetition.
use Rattle.std.proofs.Common.{◌≡◌, ℕ, List, [], ◌∷◌, Bool, true, false, ◌&&◌, ◌||◌, refl, ap, ◌∙◌, sym}
use Rattle.std.proofs.lemmas.Bool.{and_parts}
use Rattle.path_exprs.specs.Language.{Language, nothing, one_of, goes_on, repeats}
use Rattle.net_base.specs.declared.loc.LocSet.{LocSet}
use Rattle.net_base.specs.Sets.{holds}
use Rattle.std.specs.List.{list_all}
use Rattle.std.proofs.Math.Bool.{and-or_distrib_right, and_assoc, or_self_left, and-or_distrib_left}
use Rattle.list_law.proofs.Truth.{or_or_or_comm}

pub goes_on-none : (p : Language) (xs : List ℕ) → goes_on p (λ ys. false) xs ≡ false
goes_on-none p [] = refl
goes_on-none p (x ∷ xs) = goes_on-none p xs

-- a language without a first location repeats as the empty list alone
pub repeats-nothing : (xs : List ℕ) → repeats nothing xs ≡ nothing xs
repeats-nothing [] = refl
repeats-nothing (x ∷ xs) = goes_on-none nothing xs

pub repeats-none : (xs : List ℕ) → repeats (λ ys. false) xs ≡ nothing xs
repeats-none [] = refl
repeats-none (x ∷ xs) = goes_on-none (λ ys. false) xs

pub goes_on-everything : (p q : Language) (xs : List ℕ) → ((ys : List ℕ) → p ys ≡ true) → q [] ≡ true → goes_on p q xs ≡ true
goes_on-everything p q [] h e = e
goes_on-everything p q (x ∷ xs) h e =
    ap (λ b. (b && goes_on p (λ ys. p (x ∷ ys)) xs) || goes_on p (λ ys. q (x ∷ ys)) xs) e
    ∙ ap (λ b. b || goes_on p (λ ys. q (x ∷ ys)) xs) (goes_on-everything p (λ ys. p (x ∷ ys)) xs h (h (x ∷ [])))

pub repeats-everything : (xs : List ℕ) → repeats (λ ys. true) xs ≡ true
repeats-everything [] = refl
repeats-everything (x ∷ xs) = goes_on-everything (λ ys. true) (λ ys. true) xs (λ ys. refl) refl

goes_on-one_of : (full : LocSet) (q : Language) (xs : List ℕ) → list_all (holds full) xs ≡ true → q [] ≡ true → goes_on (one_of full) q xs ≡ true
goes_on-one_of full q [] h e = e
goes_on-one_of full q (x ∷ xs) h e =
    let parts = and_parts (holds full x) (list_all (holds full) xs) h in
    ap (λ b. (b && goes_on (one_of full) (λ ys. holds full x && nothing ys) xs) || goes_on (one_of full) (λ ys. q (x ∷ ys)) xs) e
    ∙ ap (λ b. b || goes_on (one_of full) (λ ys. q (x ∷ ys)) xs)
    (goes_on-one_of full (λ ys. holds full x && nothing ys) xs parts.1 (ap (λ b. b && true) parts.0))

-- repeating all locations gives each list of them
pub repeats-one_of : (full : LocSet) (xs : List ℕ) → list_all (holds full) xs ≡ true → repeats (one_of full) xs ≡ true
repeats-one_of full [] h = refl
repeats-one_of full (x ∷ xs) h =
    let parts = and_parts (holds full x) (list_all (holds full) xs) h in
    goes_on-one_of full (λ ys. holds full x && nothing ys) xs parts.1 (ap (λ b. b && true) parts.0)

pub goes_on-or : (p u v : Language) (xs : List ℕ) → goes_on p (λ ys. u ys || v ys) xs ≡ (goes_on p u xs || goes_on p v xs)
goes_on-or p u v [] = refl
goes_on-or p u v (x ∷ xs) =
    let r : Bool = goes_on p (λ ys. p (x ∷ ys)) xs in
    ap (λ b. ((u [] || v []) && r) || b) (goes_on-or p (λ ys. u (x ∷ ys)) (λ ys. v (x ∷ ys)) xs)
    ∙ ap (λ b. b || (goes_on p (λ ys. u (x ∷ ys)) xs || goes_on p (λ ys. v (x ∷ ys)) xs)) (and-or_distrib_right (u []) (v []) r)
    ∙ or_or_or_comm (u [] && r) (v [] && r) (goes_on p (λ ys. u (x ∷ ys)) xs) (goes_on p (λ ys. v (x ∷ ys)) xs)

pub goes_on-and : (b : Bool) (p u : Language) (xs : List ℕ) → goes_on p (λ ys. b && u ys) xs ≡ (b && goes_on p u xs)
goes_on-and b p u [] = refl
goes_on-and b p u (x ∷ xs) =
    let r : Bool = goes_on p (λ ys. p (x ∷ ys)) xs in
    ap (λ c. ((b && u []) && r) || c) (goes_on-and b p (λ ys. u (x ∷ ys)) xs)
    ∙ ap (λ c. c || (b && goes_on p (λ ys. u (x ∷ ys)) xs)) (and_assoc b (u []) r)
    ∙ sym (and-or_distrib_left b (u [] && r) (goes_on p (λ ys. u (x ∷ ys)) xs))

goes_on-goes_on : (p q : Language) (xs : List ℕ) → goes_on (repeats p) (goes_on p q) xs ≡ goes_on p q xs
goes_on-goes_on p q [] = refl
goes_on-goes_on p q (x ∷ xs) =
    let px : Language = λ ys. p (x ∷ ys) in
    let qx : Language = λ ys. q (x ∷ ys) in
    ap (λ c. (q [] && c) || goes_on (repeats p) (λ ys. (q [] && goes_on p px ys) || goes_on p qx ys) xs) (goes_on-goes_on p px xs)
    ∙ ap (λ c. (q [] && goes_on p px xs) || c)
    (goes_on-or (repeats p) (λ ys. q [] && goes_on p px ys) (goes_on p qx) xs
    ∙ ap (λ c. c || goes_on (repeats p) (goes_on p qx) xs) (goes_on-and (q []) (repeats p) (goes_on p px) xs)
    ∙ ap (λ c. (q [] && c) || goes_on (repeats p) (goes_on p qx) xs) (goes_on-goes_on p px xs)
    ∙ ap (λ c. (q [] && goes_on p px xs) || c) (goes_on-goes_on p qx xs))
    ∙ or_self_left (q [] && goes_on p px xs) (goes_on p qx xs)

pub repeats-repeats : (p : Language) (xs : List ℕ) → repeats (repeats p) xs ≡ repeats p xs
repeats-repeats p [] = refl
repeats-repeats p (x ∷ xs) = goes_on-goes_on p (λ ys. p (x ∷ ys)) xs
