-- The sets of members, link by link, and their names, location by location.
use Rattle.std.proofs.Common.{◌≡◌, ℕ, ◌+◌, ◌<◌, ◌∙◌, Bool, true, false, List, [], ◌∷◌, ◌++◌, cond, ap, ap₂, get_or, inl, inr, length, refl, sym, take}
use Rattle.std.specs.Prelude.{◌==◌, ◌&&◌, ◌||◌, filter}
use Rattle.std.specs.List.{flat_map, list_any}
use Rattle.std.proofs.lemmas.Bool.{and_parts, cases_Bool, eqb-true}
use Rattle.std.proofs.lemmas.List.{append-nil, append_assoc}
use Rattle.std.proofs.lemmas.List.Concat.{flat_map-append}
use Rattle.std.proofs.lemmas.List.Elements.{filter-append}
use Rattle.net_base.specs.Network.{joins}
use Rattle.location_names.proofs.Linked.{link_put}

-- what is asked of two places is asked of those that are the same
asked_there : (M : ℕ → ℕ → Bool) (x n a b : ℕ) → (x == a && n == b && M a b) ≡ (x == a && n == b && M x n)
asked_there M x n a b = elim (cases_Bool (x == a && n == b)) [
  | inl same ↦ (let ends = and_parts (x == a) (n == b) same in ap (λ t. (x == a && n == b) && t) (ap₂ (λ (u v : ℕ). M u v) (sym (eqb-true x a ends.0)) (sym (eqb-true n b ends.1))))
  | inr apart ↦ ap (λ t. t && M a b) apart ∙ sym (ap (λ t. t && M x n) apart)
]

and_each : (a p q m : Bool) → (((a && m) || (p && m)) || (q && m)) ≡ (((a || p) || q) && m)
and_each false false q m = refl
and_each false true q true = refl
and_each false true true false = refl
and_each false true false false = refl
and_each true p q true = refl
and_each true true true false = refl
and_each true true false false = refl
and_each true false true false = refl
and_each true false false false = refl

-- where it belongs there, it is put there
pub put_there : (m here : Bool) → m ≡ true → here ≡ (here && m)
put_there m true on = sym on
put_there m false on = refl

-- both ends of a link are put where they belong
pub member_put : (M : ℕ → ℕ → Bool) (held first both : Bool) (x n : ℕ) (links : List (ℕ × ℕ)) (i : ℕ) (link : ℕ × ℕ) → i < length links → link ≡ get_or links i link
    → held ≡ (list_any (joins x n) (take i links) && M x n) → first ≡ (held || (x == link.0 && n == link.1 && M link.0 link.1)) → both ≡ (first || (x == link.1 && n == link.0 && M link.1 link.0))
    → both ≡ (list_any (joins x n) (take (i + 1) links) && M x n)
member_put M held first both x n links i link lt is so one two =
    let before = list_any (joins x n) (take i links) in
    let forth = x == link.0 && n == link.1 in
    let back = x == link.1 && n == link.0 in
    two
    ∙ ap₂ (λ a b. a || b) (one ∙ ap₂ (λ a b. a || b) so (asked_there M x n link.0 link.1)) (asked_there M x n link.1 link.0)
    ∙ and_each before forth back (M x n)
    ∙ ap (λ t. t && M x n) (link_put before (before || forth) ((before || forth) || back) x n links i link lt is refl refl refl)

-- one more is told where the test holds
pub told_more : {A : Type 0} (f : ℕ → List A) (test : ℕ → Bool) (xs : List ℕ) (x : ℕ) (old new : List A) → new ≡ old ++ cond (test x) (f x) []
    → (first : List A) → old ≡ first ++ flat_map f (filter test xs) → new ≡ first ++ flat_map f (filter test (xs ++ x ∷ []))
told_more f test xs x old new more first so =
    more
    ∙ ap (λ t. t ++ cond (test x) (f x) []) so
    ∙ append_assoc first (flat_map f (filter test xs)) (cond (test x) (f x) [])
    ∙ ap (λ t. first ++ (flat_map f (filter test xs) ++ t)) (one (test x))
    ∙ ap (λ t. first ++ t) (sym (flat_map-append f (filter test xs) (cond (test x) (x ∷ []) [])))
    ∙ ap (λ ys. first ++ flat_map f ys) (sym (filter-append test xs (x ∷ [])))
  where
    one : (b : Bool) → cond b (f x) [] ≡ flat_map f (cond b (x ∷ []) [])
    one true = sym (append-nil (f x))
    one false = refl
