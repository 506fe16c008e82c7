-- What is had of an option, by how it was made.
use Rattle.std.proofs.Common.{◌≡◌, ◌∙◌, Bool, None, Option, Some, ap, cond, false, inl, inr, refl, sym, true, ℕ}
use Rattle.std.specs.Option.{option_and_then, option_eq, option_map, option_map_or}
use Rattle.std.specs.Prelude.{◌==◌, ◌⊎◌, is_none, is_some, nat_eq}
use Rattle.std.proofs.lemmas.Bool.{eq-eqb, eqb-true, true≢false}

-- where a chain of choices has a value, so has each
pub option_and_then_parts : {A B : Type 0} (f : A → Option B) (o : Option A) (y : B) → option_and_then f o ≡ Some y → (x : A) × (o ≡ Some x) × (f x ≡ Some y)
option_and_then_parts f None y h = absurd (cc)
option_and_then_parts f (Some x) y h = (x, refl, h)

pub option_and_then-never : {A B : Type 0} (f : A → Option B) (o : Option A) → ((x : A) → f x ≡ None) → option_and_then f o ≡ None
option_and_then-never f None never = refl
option_and_then-never f (Some x) never = never x

pub option_map_parts : {A B : Type 0} (f : A → B) (o : Option A) (y : B) → option_map f o ≡ Some y → (x : A) × (o ≡ Some x) × (f x ≡ y)
option_map_parts f None y h = absurd (cc)
option_map_parts f (Some x) y h = (x, refl, cc)

pub unless_parts : {A : Type 0} (b : Bool) (o : Option A) (x : A) → cond b None o ≡ Some x → (b ≡ false) × (o ≡ Some x)
unless_parts true o x h = absurd (cc)
unless_parts false o x h = (refl, h)

pub when_parts : {A : Type 0} (b : Bool) (o : Option A) (x : A) → cond b o None ≡ Some x → (b ≡ true) × (o ≡ Some x)
when_parts true o x h = (refl, h)
when_parts false o x h = absurd (cc)

pub cases_Option : {A : Type 0} (o : Option A) → (o ≡ None) ⊎ ((x : A) × (o ≡ Some x))
cases_Option None = inl refl
cases_Option (Some x) = inr (x, refl)

pub is_some_parts : {A : Type 0} (o : Option A) → is_some o ≡ true → (x : A) × (o ≡ Some x)
is_some_parts None h = absurd (true≢false (sym h))
is_some_parts (Some x) h = (x, refl)

pub is_some_from : {A : Type 0} (o : Option A) (i : A) → o ≡ Some i → is_some o ≡ true
is_some_from o i h = ap is_some h

pub is_none_parts : {A : Type 0} (o : Option A) → is_none o ≡ true → o ≡ None
is_none_parts None h = refl
is_none_parts (Some x) h = absurd (true≢false (sym h))

pub none_from_not_some : {A : Type 0} (o : Option A) → is_some o ≡ false → o ≡ None
none_from_not_some None h = refl
none_from_not_some (Some x) h = absurd (true≢false h)

pub none_or_some : {A : Type 0} (o : Option A) (x : A) → o ≡ None → o ≡ Some x → ⊥
none_or_some o x none some = let clash : None ≡ Some x = sym none ∙ some in cc

pub is_none_from : {A : Type 0} (o : Option A) → o ≡ None → is_none o ≡ true
is_none_from o h = ap is_none h

pub option_map_or_equal : (o : Option ℕ) (n : ℕ) → option_map_or (λ m. m == n) o false ≡ true → o ≡ Some n
option_map_or_equal (Some m) n h = ap Some (eqb-true m n h)
option_map_or_equal None n h = absurd (cc)

pub none_from : {A : Type 0} (r : Option A) → ((d : A) → r ≡ Some d → ⊥) → r ≡ None
none_from None never = refl
none_from (Some d) never = absurd (never d refl)

pub is_some-option_map : {A B : Type 0} (f : A → B) (o : Option A) → is_some (option_map f o) ≡ is_some o
is_some-option_map f None = refl
is_some-option_map f (Some x) = refl

-- options of numbers that test as the same are the same
pub option_eq-is : (a b : Option ℕ) → option_eq nat_eq a b ≡ true → a ≡ b
option_eq-is None None h = refl
option_eq-is None (Some y) h = absurd (cc)
option_eq-is (Some x) None h = absurd (cc)
option_eq-is (Some x) (Some y) h = ap Some (eqb-true x y h)

pub is-option_eq : (a b : Option ℕ) → a ≡ b → option_eq nat_eq a b ≡ true
is-option_eq None None h = refl
is-option_eq None (Some y) h = absurd (cc)
is-option_eq (Some x) None h = absurd (cc)
is-option_eq (Some x) (Some y) h = let same : x ≡ y = cc in eq-eqb x y same
