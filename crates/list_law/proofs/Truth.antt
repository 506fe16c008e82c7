-- Truth values: what the algebra of std leaves out.
use Rattle.std.proofs.Common.{◌&&◌, ◌||◌, ◌∙◌, ◌≡◌, Bool, ap, false, not, refl, sym, true}
use Rattle.std.specs.Prelude.{if◌then◌else◌}

-- tests that say the same are one
pub same_tests : (a b : Bool) → (a ≡ true → b ≡ true) → (b ≡ true → a ≡ true) → a ≡ b
same_tests true b f g = sym (f refl)
same_tests false true f g = g refl
same_tests false false f g = refl

pub or_or_or_comm : (a b c d : Bool) → ((a || b) || (c || d)) ≡ ((a || c) || (b || d))
or_or_or_comm true b c d = refl
or_or_or_comm false true true d = refl
or_or_or_comm false true false d = refl
or_or_or_comm false false c d = refl

pub or_left_comm : (a b c : Bool) → (a || (b || c)) ≡ (b || (a || c))
or_left_comm true true c = refl
or_left_comm true false c = refl
or_left_comm false b c = refl

pub and_left_comm : (a b c : Bool) → (a && (b && c)) ≡ (b && (a && c))
and_left_comm true b c = refl
and_left_comm false true c = refl
and_left_comm false false c = refl

pub not_and_not : (a b : Bool) → (not a && not b) ≡ not (a || b)
not_and_not true b = refl
not_and_not false b = refl

pub if_same : {A : Type 0} (b : Bool) (x : A) → (if b then x else x) ≡ x
if_same true x = refl
if_same false x = refl

-- beside a test that fails the other one decides
pub or_failed : (x y : Bool) → y ≡ false → (x || y) ≡ x
or_failed true y off = refl
or_failed false y off = off

-- a test of two parts, of which the second one is tried where the first one holds
pub and_by_second : (whole first second answer : Bool) → whole ≡ (first && second) → first ≡ true → answer ≡ second → answer ≡ whole
and_by_second whole first second answer is met same = same ∙ sym (is ∙ ap (λ b. b && second) met)

pub and_by_first : (whole first second answer : Bool) → whole ≡ (first && second) → first ≡ false → answer ≡ false → answer ≡ whole
and_by_first whole first second answer is missed none = none ∙ sym (is ∙ ap (λ b. b && second) missed)

pub and_alike : {a b x y : Bool} → a ≡ b → x ≡ y → (a && x) ≡ (b && y)
and_alike first second = λ i. first i && second i

-- both branches give the same
pub either_way : {A : Type 0} (b : Bool) (x y z : A) → x ≡ z → y ≡ z → (if b then x else y) ≡ z
either_way true x y z hx hy = hx
either_way false x y z hx hy = hy
