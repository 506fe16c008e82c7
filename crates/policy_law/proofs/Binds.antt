-- Faults that are told one after the other.
use Rattle.std.proofs.Common.{◌≡◌, List, [], ◌∷◌, ◌++◌, map, Result, Ok, Err, refl, ap, ◌∙◌}
use Rattle.std.specs.Prelude.{⊤}
use Rattle.std.specs.List.{flat_map}
use Rattle.net_base.specs.Steps.{◌>>=◌}
use Rattle.policy_tokens.specs.declared.fault.PolicyFault.{PolicyFault}
use Rattle.policy_rules.specs.Checks.{each}
use Rattle.policy_law.specs.Told.{told}

-- both lists are told one after the other
pub told_join : {A B : Type 0} (fault : A → PolicyFault) (xs ys : List A) (r : Result B PolicyFault) → (told fault xs >>= λ _. (told fault ys >>= λ _. r)) ≡ (told fault (xs ++ ys) >>= λ _. r)
told_join fault [] ys r = refl
told_join fault (x ∷ xs) ys r = refl

pub told_append : {A : Type 0} (fault : A → PolicyFault) (xs ys : List A) → (told fault xs >>= λ _. told fault ys) ≡ told fault (xs ++ ys)
told_append fault [] ys = refl
told_append fault (x ∷ xs) ys = refl

pub told_end : {A : Type 0} (fault : A → PolicyFault) (xs : List A) → (told fault xs >>= λ _. Ok tt) ≡ told fault xs
told_end fault [] = refl
told_end fault (x ∷ xs) = refl

-- what is given where nothing is told goes on
pub told_gives : {A B C : Type 0} (fault : A → PolicyFault) (xs : List A) (y : B) (k : B → Result C PolicyFault) → ((told fault xs >>= λ _. Ok y) >>= k) ≡ (told fault xs >>= λ _. k y)
told_gives fault [] y k = refl
told_gives fault (x ∷ xs) y k = refl

pub told_bind : {A B C : Type 0} (fault : A → PolicyFault) (xs : List A) (r : Result B PolicyFault) (k : B → Result C PolicyFault)
    → ((told fault xs >>= λ _. r) >>= k) ≡ (told fault xs >>= λ _. (r >>= k))
told_bind fault [] r k = refl
told_bind fault (x ∷ xs) r k = refl

-- what follows counts only where nothing is told
pub told_where : {A B : Type 0} (fault : A → PolicyFault) (xs : List A) (r s : Result B PolicyFault) → (xs ≡ [] → r ≡ s) → (told fault xs >>= λ _. r) ≡ (told fault xs >>= λ _. s)
told_where fault [] r s same = same refl
told_where fault (x ∷ xs) r s same = refl

-- ---- each of a list

behind : {A B C : Type 0} (r : Result A PolicyFault) (s : Result C PolicyFault) (t : Result B PolicyFault) (k : B → Result C PolicyFault) → s ≡ (t >>= k) → (r >>= λ _. s) ≡ ((r >>= λ _. t) >>= k)
behind (Ok u) s t k same = same
behind (Err e) s t k same = refl

pub each_append : {A : Type 0} (check : A → Result ⊤ PolicyFault) (xs ys : List A) → each check (xs ++ ys) ≡ (each check xs >>= λ _. each check ys)
each_append check [] ys = refl
each_append check (x ∷ xs) ys = behind (check x) (each check (xs ++ ys)) (each check xs) (λ _. each check ys) (each_append check xs ys)

pub each_map : {A B : Type 0} (check : B → Result ⊤ PolicyFault) (f : A → B) (xs : List A) → each check (map f xs) ≡ each (λ x. check (f x)) xs
each_map check f [] = refl
each_map check f (x ∷ xs) = ap (λ (r : Result ⊤ PolicyFault). check (f x) >>= λ _. r) (each_map check f xs)

pub nil_front : {A : Type 0} (xs ys : List A) → xs ++ ys ≡ [] → xs ≡ []
nil_front [] ys e = refl
nil_front (x ∷ xs) ys e = absurd cc

pub nil_back : {A : Type 0} (xs ys : List A) → xs ++ ys ≡ [] → ys ≡ []
nil_back [] ys e = e
nil_back (x ∷ xs) ys e = absurd cc

pub both_nil : {A : Type 0} (xs ys : List A) → xs ≡ [] → ys ≡ [] → xs ++ ys ≡ []
both_nil xs ys a b = rw (a, b) refl

-- each check tells what is found where nothing else is
pub each_where : {A B C : Type 0} (check : A → Result ⊤ PolicyFault) (fault : B → PolicyFault) (found : A → List B) (other : A → List C) → ((x : A) → other x ≡ [] → check x ≡ told fault (found x))
    → (xs : List A) → flat_map other xs ≡ [] → each check xs ≡ told fault (flat_map found xs)
each_where check fault found other one [] none = refl
each_where check fault found other one (x ∷ xs) none =
    ap (λ (r : Result ⊤ PolicyFault). r >>= λ _. each check xs) (one x (nil_front (other x) (flat_map other xs) none))
    ∙ ap (λ (r : Result ⊤ PolicyFault). told fault (found x) >>= λ _. r) (each_where check fault found other one xs (nil_back (other x) (flat_map other xs) none))
    ∙ told_append fault (found x) (flat_map found xs)

no_other : {A : Type 0} → A → List ⊤
no_other x = []

none_other : {A : Type 0} (xs : List A) → flat_map no_other xs ≡ []
unfolding no_other
none_other [] = refl
none_other (x ∷ xs) = none_other xs

-- each check tells what is found
pub each_told : {A B : Type 0} (check : A → Result ⊤ PolicyFault) (fault : B → PolicyFault) (found : A → List B)
    → ((x : A) → check x ≡ told fault (found x)) → (xs : List A) → each check xs ≡ told fault (flat_map found xs)
each_told check fault found one xs = each_where check fault found no_other (λ x none. one x) xs (none_other xs)
