-- The derivative holds the lists that, with the location in front, are in the expression.
use Rattle.std.proofs.Common.{◌≡◌, ℕ, List, [], ◌∷◌, Bool, true, false, not, cond, ◌&&◌, ◌||◌, refl, sym, ap, ◌∙◌}
use Rattle.std.proofs.Math.Bool.{or-false, or_comm}
use Rattle.path_exprs.specs.Expression.{Expression, never, empty, set, seq, either, both, complement, star, Expressions, none, more}
use Rattle.path_exprs.specs.Language.{nothing, repeats}
use Rattle.net_base.specs.Sets.{holds}
use Rattle.path_exprs.specs.Membership.{member, some_member, each_member}
use Rattle.path_exprs.specs.Normal.{seq_of, either_of}
use Rattle.path_exprs.specs.Derivative.{derivative, derivative_each}
use Rattle.path_law.proofs.Languages.{divides_same, goes_on-divides}
use Rattle.path_law.proofs.NormalForms.{in_some, in_each, member-seq_of, member-either_of, member-both_of, member-complement_of}

one_of-at : (b : Bool) (xs : List ℕ) → member (cond b empty never) xs ≡ (b && nothing xs)
one_of-at true xs = refl
one_of-at false xs = refl

seq-at : (t : Bool) (front back : Expression) (xs : List ℕ) →
    member (cond t (either_of (front ∷ back ∷ [])) front) xs ≡ ((t && member back xs) || member front xs)
seq-at true front back xs =
    member-either_of (front ∷ back ∷ []) xs ∙ ap (λ b. member front xs || b) (or-false (member back xs)) ∙ or_comm (member front xs) (member back xs)
seq-at false front back xs = refl

mutual
  pub member-derivative : (e : Expression) (x : ℕ) (xs : List ℕ) → member (derivative x e) xs ≡ member e (x ∷ xs)
  member-derivative never x xs = refl
  member-derivative empty x xs = refl
  member-derivative (set s) x xs = one_of-at (holds s x) xs
  member-derivative (seq a b) x xs =
      seq-at (member a []) (seq_of (derivative x a) b) (derivative x b) xs
      ∙ ap (λ t. (member a [] && t) || member (seq_of (derivative x a) b) xs) (member-derivative b x xs)
      ∙ ap (λ t. (member a [] && member b (x ∷ xs)) || t)
      (member-seq_of (derivative x a) b xs
      ∙ divides_same (member (derivative x a)) (λ ys. member a (x ∷ ys)) (member b) (member b) (member-derivative a x) (λ ys. refl) xs)
  member-derivative (either es) x xs = member-either_of (derivative_each x es) xs ∙ some_member-derivative es x xs
  member-derivative (both es) x xs = member-both_of (derivative_each x es) xs ∙ each_member-derivative es x xs
  member-derivative (complement a) x xs = member-complement_of (derivative x a) xs ∙ ap not (member-derivative a x xs)
  member-derivative (star a) x xs =
      member-seq_of (derivative x a) (star a) xs
      ∙ divides_same (member (derivative x a)) (λ ys. member a (x ∷ ys)) (repeats (member a)) (repeats (member a)) (member-derivative a x) (λ ys. refl) xs
      ∙ sym (goes_on-divides (member a) (λ ys. member a (x ∷ ys)) xs)

  pub some_member-derivative : (es : Expressions) (x : ℕ) (xs : List ℕ) → in_some (derivative_each x es) xs ≡ some_member es (x ∷ xs)
  some_member-derivative none x xs = refl
  some_member-derivative (more e es) x xs =
      ap (λ t. t || in_some (derivative_each x es) xs) (member-derivative e x xs) ∙ ap (λ t. member e (x ∷ xs) || t) (some_member-derivative es x xs)

  pub each_member-derivative : (es : Expressions) (x : ℕ) (xs : List ℕ) → in_each (derivative_each x es) xs ≡ each_member es (x ∷ xs)
  each_member-derivative none x xs = refl
  each_member-derivative (more e es) x xs =
      ap (λ t. t && in_each (derivative_each x es) xs) (member-derivative e x xs) ∙ ap (λ t. member e (x ∷ xs) && t) (each_member-derivative es x xs)
