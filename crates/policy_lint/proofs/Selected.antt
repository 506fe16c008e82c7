-- Those of a list of which something holds.
use Rattle.std.proofs.Common.{◌≡◌, Bool, true, false, List, [], ◌∷◌, ◌++◌, map, refl, sym, ap, subst, ◌∙◌, inl, inr, cond}
use Rattle.std.specs.Prelude.{◌↔◌, IsTrue, filter}
use Rattle.std.proofs.lemmas.Bool.{false≢true}
use Rattle.list_law.specs.Members.{IsIn}
use Rattle.list_law.proofs.Members.{IsIn-later}
use Rattle.policy_lint.specs.Selected.{AreThose}

module _ {A : Type 0} (Holds : A → Type 0) where
  -- there is one such list
  pub one_those : (xs ys zs : List A) → AreThose Holds xs ys → AreThose Holds xs zs → ys ≡ zs
  one_those [] ys zs a b = a ∙ sym b
  one_those (x ∷ xs) ys zs (inl a) (inl b) = a.1.1 ∙ ap (λ rest. x ∷ rest) (one_those xs a.1.0 b.1.0 a.1.2 b.1.2) ∙ sym b.1.1
  one_those (x ∷ xs) ys zs (inl a) (inr b) = absurd (b.0 a.0)
  one_those (x ∷ xs) ys zs (inr a) (inl b) = absurd (a.0 b.0)
  one_those (x ∷ xs) ys zs (inr a) (inr b) = one_those xs ys zs a.1 b.1

  -- of two lists one behind the other
  pub those_append : (xs more ys others : List A) → AreThose Holds xs ys → AreThose Holds more others → AreThose Holds (xs ++ more) (ys ++ others)
  those_append [] more ys others a b = subst (λ zs. AreThose Holds more (zs ++ others)) (sym a) b
  those_append (x ∷ xs) more ys others (inl a) b = inl (a.0, (a.1.0 ++ others, ap (λ zs. zs ++ others) a.1.1, those_append xs more a.1.0 others a.1.2 b))
  those_append (x ∷ xs) more ys others (inr a) b = inr (a.0, those_append xs more ys others a.1 b)

  -- of a list where it holds of none
  pub those_none : (xs : List A) → ((x : A) → IsIn xs x → ¬ Holds x) → AreThose Holds xs []
  those_none [] none = refl
  those_none (x ∷ xs) none = inr (none x (0, refl), those_none xs (λ y at. none y (IsIn-later x y xs at)))

  -- those that pass a test which tells it
  pub those_passing : {B : Type 0} (f : B → A) (passes : B → Bool) (xs : List B) → ((x : B) → IsIn xs x → IsTrue (passes x) ↔ Holds (f x)) → AreThose Holds (map f xs) (map f (filter passes xs))
  those_passing f passes [] tells = refl
  those_passing {B} f passes (x ∷ xs) tells = by_test (passes x) refl (those_passing f passes xs (λ y at. tells y (IsIn-later x y xs at)))
    where
      by_test : (b : Bool) → passes x ≡ b → AreThose Holds (map f xs) (map f (filter passes xs)) → AreThose Holds (map f (x ∷ xs)) (map f (filter passes (x ∷ xs)))
      by_test true is later = inl ((tells x (0, refl)).0 is, (map f (filter passes xs), ap (λ b. map f (cond b (x ∷ filter passes xs) (filter passes xs))) is, later))
      by_test false is later =
          inr (
            λ h. absurd (false≢true (sym is ∙ (tells x (0, refl)).1 h)),
            subst (AreThose Holds (map f xs)) (sym (ap (λ b. map f (cond b (x ∷ filter passes xs) (filter passes xs))) is)) later,
          )
