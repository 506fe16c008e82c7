-- What holds of each item of a list.
use Rattle.std.proofs.Common.{◌++◌, ◌∷◌, ◌≡◌, Bool, List, Some, [], false, map, refl, subst, suc, true, zero, ℕ, IsTrue, not}
use Rattle.std.specs.List.{AllByRecursion, list_all, list_any}
use Rattle.std.specs.Prelude.{filter, slice_get}
use Rattle.std.proofs.lemmas.Bool.{and_parts, cond_both, not-false, or_parts}

pub AllByRecursion-append : {A : Type 0} → (P : A → Type 0) (xs ys : List A) → AllByRecursion P xs → AllByRecursion P ys → AllByRecursion P (xs ++ ys)
AllByRecursion-append P [] ys p q = q
AllByRecursion-append P (x ∷ xs) ys p q = (p.0, AllByRecursion-append P xs ys p.1 q)

pub AllByRecursion-append_parts : {A : Type 0} (P : A → Type 0) (xs ys : List A) → AllByRecursion P (xs ++ ys) → AllByRecursion P xs × AllByRecursion P ys
AllByRecursion-append_parts P [] ys a = (tt, a)
AllByRecursion-append_parts P (x ∷ xs) ys a = let q = AllByRecursion-append_parts P xs ys a.1 in ((a.0, q.0), q.1)

pub AllByRecursion-push : {A : Type 0} (P : A → Type 0) (xs : List A) (x : A) → AllByRecursion P xs → P x → AllByRecursion P (xs ++ x ∷ [])
AllByRecursion-push P [] x all here = (here, tt)
AllByRecursion-push P (y ∷ ys) x all here = (all.0, AllByRecursion-push P ys x all.1 here)

pub AllByRecursion-weaker : {A : Type 0} → (P Q : A → Type 0) (xs : List A) → ((x : A) → P x → Q x) → AllByRecursion P xs → AllByRecursion Q xs
AllByRecursion-weaker P Q [] f h = tt
AllByRecursion-weaker P Q (x ∷ xs) f h = (f x h.0, AllByRecursion-weaker P Q xs f h.1)

pub AllByRecursion-both : {X : Type 0} (P Q R : X → Type 0) → ((x : X) → P x → Q x → R x) → (xs : List X) → AllByRecursion P xs → AllByRecursion Q xs → AllByRecursion R xs
AllByRecursion-both P Q R one [] ps qs = tt
AllByRecursion-both P Q R one (x ∷ xs) ps qs = (one x ps.0 qs.0, AllByRecursion-both P Q R one xs ps.1 qs.1)

pub AllByRecursion-filter : {A : Type 0} → (P : A → Type 0) (p : A → Bool) (xs : List A) → AllByRecursion P xs → AllByRecursion P (filter p xs)
AllByRecursion-filter P p [] h = tt
AllByRecursion-filter P p (x ∷ xs) h =
    cond_both (p x) (x ∷ filter p xs) (filter p xs) (AllByRecursion P) (λ _. (h.0, AllByRecursion-filter P p xs h.1)) (λ _. AllByRecursion-filter P p xs h.1)

pub AllByRecursion-map : {A B : Type 0} (f : A → B) (P : B → Type 0) (xs : List A) → AllByRecursion (λ x. P (f x)) xs → AllByRecursion P (map f xs)
AllByRecursion-map f P [] all = tt
AllByRecursion-map f P (x ∷ xs) all = (all.0, AllByRecursion-map f P xs all.1)

pub AllByRecursion_at : {A : Type 0} (P : A → Type 0) (xs : List A) (i : ℕ) (x : A) → AllByRecursion P xs → slice_get xs i ≡ Some x → P x
AllByRecursion_at P [] i x all at = absurd cc
AllByRecursion_at P (y ∷ ys) zero x all at = let same : y ≡ x = cc in subst P same all.0
AllByRecursion_at P (y ∷ ys) (suc i) x all at = AllByRecursion_at P ys i x all.1 at

-- what no item passes
pub AllByRecursion-from_list_any : {A : Type 0} (p : A → Bool) (xs : List A) → list_any p xs ≡ false → AllByRecursion (λ x. p x ≡ false) xs
AllByRecursion-from_list_any p [] h = tt
AllByRecursion-from_list_any p (x ∷ xs) h = let q = or_parts (p x) (list_any p xs) h in (q.0, AllByRecursion-from_list_any p xs q.1)

pub list_any_breaks : {A : Type 0} (r : A → Bool) (xs : List A) → list_any r xs ≡ true → AllByRecursion (λ x. r x ≡ false) xs → ⊥
list_any_breaks r [] h a = absurd cc
list_any_breaks r (x ∷ xs) h a = list_any_breaks r xs (rw a.0 at h) a.1

pub AllByRecursion-from_list_all : {X : Type 0} (P : X → Type 0) (p : X → Bool) → ((x : X) → p x ≡ true → P x) → (xs : List X) → list_all p xs ≡ true → AllByRecursion P xs
AllByRecursion-from_list_all P p each [] h = tt
AllByRecursion-from_list_all P p each (x ∷ xs) h = let a = and_parts (p x) (list_all p xs) h in (each x a.0, AllByRecursion-from_list_all P p each xs a.1)

pub AllByRecursion-map_from_list_all : {X Y : Type 0} (P : Y → Type 0) (f : X → Y) (p : X → Bool) → ((x : X) → p x ≡ true → P (f x)) → (xs : List X)
    → list_all p xs ≡ true → AllByRecursion P (map f xs)
AllByRecursion-map_from_list_all P f p each [] h = tt
AllByRecursion-map_from_list_all P f p each (x ∷ xs) h = let a = and_parts (p x) (list_all p xs) h in (each x a.0, AllByRecursion-map_from_list_all P f p each xs a.1)

-- a test holds of each where it fails of none
pub AllByRecursion-not : {A : Type 0} (p : A → Bool) (xs : List A) → AllByRecursion (λ x. IsTrue (p x)) xs → AllByRecursion (λ x. not (p x) ≡ false) xs
AllByRecursion-not p [] all = tt
AllByRecursion-not p (x ∷ xs) all = (rw all.0 refl, AllByRecursion-not p xs all.1)

pub AllByRecursion-from_not : {A : Type 0} (p : A → Bool) (xs : List A) → AllByRecursion (λ x. not (p x) ≡ false) xs → AllByRecursion (λ x. IsTrue (p x)) xs
AllByRecursion-from_not p [] all = tt
AllByRecursion-from_not p (x ∷ xs) all = (not-false (p x) all.0, AllByRecursion-from_not p xs all.1)
