-- Whether an item passes a test, and the first that does.
use Rattle.std.proofs.Common.{◌||◌, ◌∙◌, ◌∷◌, ◌≡◌, All, Bool, List, None, Some, [], ap, false, inl, inr, map, refl, suc, sym, true, zero, ℕ}
use Rattle.std.specs.List.{find, list_any}
use Rattle.std.specs.Prelude.{is_some, slice_get, if◌then◌else◌}
use Rattle.std.proofs.lemmas.Bool.{cases_Bool, false≢true, or_cases}
use Rattle.std.proofs.lemmas.List.Elements.{All-head, All-tail}

pub list_any-map : {A B : Type 0} (p : B → Bool) (f : A → B) (xs : List A) → list_any p (map f xs) ≡ list_any (λ x. p (f x)) xs
list_any-map p f [] = refl
list_any-map p f (x ∷ xs) = ap (λ b. p (f x) || b) (list_any-map p f xs)

pub list_any-alike : {A : Type 0} (xs : List A) (P : A → Type 0) (p q : A → Bool) → All P xs → ((x : A) → P x → p x ≡ q x) → list_any p xs ≡ list_any q xs
list_any-alike [] P p q w h = refl
list_any-alike (x ∷ xs) P p q w h = ap (λ z. z || list_any p xs) (h x (All-head P x xs w)) ∙ ap (λ z. q x || z) (list_any-alike xs P p q (All-tail P x xs w) h)

-- where some item passes, one at some place does
pub list_any_parts : {A : Type 0} (p : A → Bool) (xs : List A) → list_any p xs ≡ true → (i : ℕ) × (x : A) × (slice_get xs i ≡ Some x) × (p x ≡ true)
list_any_parts p [] h = absurd (false≢true h)
list_any_parts p (y ∷ ys) h = elim (or_cases (p y) (list_any p ys) h) [
  | inl t ↦ (0, y, refl, t)
  | inr t ↦ let found = list_any_parts p ys t in (suc found.0, found.1, found.2, found.3)
]

pub find_parts : {A : Type 0} (p : A → Bool) (xs : List A) (x : A) → find p xs ≡ Some x → (i : ℕ) × (slice_get xs i ≡ Some x) × (p x ≡ true)
find_parts p [] x h = absurd cc
find_parts p (y ∷ ys) x h = elim (cases_Bool (p y)) [
  | inl t ↦ let same : Some y ≡ Some x = sym (rw t refl) ∙ h in let one : y ≡ x = cc in (0, ap Some one, ap p (sym one) ∙ t)
  | inr t ↦ let later : find p ys ≡ Some x = sym (rw t refl) ∙ h in let found = find_parts p ys x later in (suc found.0, found.1, found.2)
]

pub find_from : {A : Type 0} (p : A → Bool) (xs : List A) (i : ℕ) (x : A) → slice_get xs i ≡ Some x → p x ≡ true → (y : A) × (find p xs ≡ Some y)
find_from p [] i x at h = absurd cc
find_from p (y ∷ ys) zero x at h = let same : y ≡ x = cc in let here : p y ≡ true = ap p same ∙ h in (y, rw here refl)
find_from p (y ∷ ys) (suc i) x at h = elim (cases_Bool (p y)) [
  | inl t ↦ (y, rw t refl)
  | inr t ↦ let found = find_from p ys i x at h in (found.0, rw t found.1)
]

-- what a test finds, where it passes at some item
pub find-any : {A : Type 0} (p : A → Bool) (xs : List A) → list_any p xs ≡ true → (y : A) × (find p xs ≡ Some y)
find-any p [] h = absurd cc
find-any p (x ∷ xs) h = by (p x) refl (find-any p xs)
  where
    by : (b : Bool) → p x ≡ b → (list_any p xs ≡ true → (y : _) × (find p xs ≡ Some y)) → (y : _) × (find p (x ∷ xs) ≡ Some y)
    by true e later = (x, rw e refl)
    by false e later = let r = later (rw e at h) in (r.0, rw e r.1)

pub find-none : {A : Type 0} (p : A → Bool) (xs : List A) → list_any p xs ≡ false → find p xs ≡ None
find-none p [] h = refl
find-none p (x ∷ xs) h = by (p x) refl (find-none p xs)
  where
    by : (b : Bool) → p x ≡ b → (list_any p xs ≡ false → find p xs ≡ None) → find p (x ∷ xs) ≡ None
    by true e later = absurd (let t : true ≡ false = rw e at h in cc)
    by false e later = rw e (later (rw e at h))

pub list_any-not_found : {A : Type 0} (p : A → Bool) (xs : List A) → find p xs ≡ None → list_any p xs ≡ false
list_any-not_found p xs h = by (list_any p xs) refl
  where
    by : (b : Bool) → list_any p xs ≡ b → b ≡ false
    by false e = refl
    by true e = absurd (let y = find-any p xs e in let n = sym h ∙ y.1 in cc)

pub list_any-found : {A : Type 0} (p : A → Bool) (xs : List A) (y : A) → find p xs ≡ Some y → list_any p xs ≡ true
list_any-found p xs y h = by (list_any p xs) refl
  where
    by : (b : Bool) → list_any p xs ≡ b → b ≡ true
    by true e = refl
    by false e = absurd (let n = sym (find-none p xs e) ∙ h in cc)

pub list_any-find : {X : Type 0} (p : X → Bool) (xs : List X) → list_any p xs ≡ is_some (find p xs)
list_any-find p [] = refl
list_any-find p (x ∷ xs) = at_first (p x) refl (list_any-find p xs)
  where
    at_first : (b : Bool) → p x ≡ b → list_any p xs ≡ is_some (find p xs) → list_any p (x ∷ xs) ≡ is_some (find p (x ∷ xs))
    at_first true is later = rw is refl
    at_first false is later = rw is later

-- ---- tests that agree, and tests that nothing passes

pub list_any-same : {A : Type 0} (p q : A → Bool) → ((x : A) → p x ≡ q x) → (xs : List A) → list_any p xs ≡ list_any q xs
list_any-same p q same [] = refl
list_any-same p q same (x ∷ xs) = ap (λ b. b || list_any p xs) (same x) ∙ ap (λ b. q x || b) (list_any-same p q same xs)

pub list_any-never : {A : Type 0} (p : A → Bool) → ((x : A) → p x ≡ false) → (xs : List A) → list_any p xs ≡ false
list_any-never p never [] = refl
list_any-never p never (x ∷ xs) = rw (never x) (list_any-never p never xs)

pub find-same : {A : Type 0} (p q : A → Bool) → ((x : A) → p x ≡ q x) → (xs : List A) → find p xs ≡ find q xs
find-same p q same [] = refl
find-same p q same (x ∷ xs) = ap (λ b. if b then Some x else find p xs) (same x) ∙ ap (λ o. if q x then Some x else o) (find-same p q same xs)

pub find-never : {A : Type 0} (p : A → Bool) → ((x : A) → p x ≡ false) → (xs : List A) → find p xs ≡ None
find-never p never [] = refl
find-never p never (x ∷ xs) = rw (never x) (find-never p never xs)
