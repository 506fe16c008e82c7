-- Each normal form holds the lists that the plain form holds.
use Rattle.std.proofs.Common.{◌≡◌, ℕ, List, [], ◌∷◌, ◌++◌, Bool, true, false, not, cond, ◌&&◌, ◌||◌, refl, sym, ap, ◌∙◌, ⊎_elim}
use Rattle.std.specs.declared.cmp.Ordering.{Ordering}
use Rattle.std.specs.declared.cmp.Ordering.TheVariants.{Less, Equal, Greater}
use Rattle.std.specs.Ordering.{match_ordering}
use Rattle.std.specs.List.{list_any, flat_map}
use Rattle.std.proofs.lemmas.Bool.{or_cases}
use Rattle.std.proofs.Math.Bool.{and-false, and-true, and_assoc, or-false, or-true, or_assoc, or_self_left, and_self_left, not-not}
use Rattle.list_law.proofs.Truth.{and_left_comm, or_left_comm}
use Rattle.path_exprs.specs.Expression.{Expression, never, empty, set, seq, either, both, complement, Expressions, none, more, expressions_of, list_of}
use Rattle.path_exprs.specs.Order.{compare}
use Rattle.path_exprs.specs.Language.{Language, divides}
use Rattle.path_exprs.specs.Membership.{member, some_member, each_member}
use Rattle.path_exprs.specs.Normal.{all, is_all, is_never, after, before, seq_of, insert, insert_each, sorted, either_parts, either_from, either_of, both_parts, both_from, both_of, complement_of}
use Rattle.path_law.proofs.Languages.{Same, divides_same, divides_assoc, divides-none_left, divides-nothing_left, divides-none_right, divides-nothing_right}
use Rattle.path_exprs.specs.Ordered.{compare-equal}
use Rattle.path_exprs.proofs.NeverMembers.{member-is_never}

-- sequences

pub member-after : (a c : Expression) → Same (member (after a c)) (divides (member a) (member c))
member-after (seq a b) c xs =
    divides_same (member a) (member a) (member (after b c)) (divides (member b) (member c)) (λ ys. refl) (member-after b c) xs
    ∙ sym (divides_assoc (member a) (member b) (member c) xs)
member-after a c xs = refl

member-before : (a b : Expression) → Same (member (before a b)) (divides (member a) (member b))
member-before a never xs = sym (divides-none_right (member a) xs)
member-before a empty xs = sym (divides-nothing_right (member a) xs)
member-before a (set ws) xs = member-after a (set ws) xs
member-before a b xs = member-after a b xs

pub member-seq_of : (a b : Expression) → Same (member (seq_of a b)) (divides (member a) (member b))
member-seq_of never b xs = sym (divides-none_left (member b) xs)
member-seq_of empty b xs = sym (divides-nothing_left (member b) xs)
member-seq_of a b xs = member-before a b xs

pub member-complement_of : (a : Expression) → Same (member (complement_of a)) (λ xs. not (member a xs))
member-complement_of (complement a) xs = sym (not-not (member a xs))
member-complement_of a xs = refl

-- what members hold together, joined by "or" or by "and"

module _ (op : Bool → Bool → Bool) (unit : Bool) where
  abbrev held : List Expression → Language
  held [] xs = unit
  held (e ∷ es) xs = op (member e xs) (held es xs)

  module _ (unit_left : (a : Bool) → op unit a ≡ a) (unit_right : (a : Bool) → op a unit ≡ a) (assoc : (a b c : Bool) → op (op a b) c ≡ op a (op b c))
      (left_comm : (a b c : Bool) → op a (op b c) ≡ op b (op a c)) (self_left : (a b : Bool) → op a (op a b) ≡ op a b) where
    held-insert-at : (e f : Expression) (fs : List Expression) (xs : List ℕ) → held (insert e fs) xs ≡ op (member e xs) (held fs xs) →
        (o : Ordering) → compare e f ≡ o → held (match_ordering o (e ∷ f ∷ fs) (f ∷ fs) (f ∷ insert e fs)) xs ≡ op (member e xs) (op (member f xs) (held fs xs))
    held-insert-at e f fs xs ih Less h = refl
    held-insert-at e f fs xs ih Equal h =
        ap (λ g. op (member g xs) (held fs xs)) (sym (compare-equal e f h))
        ∙ sym (self_left (member e xs) (held fs xs))
        ∙ ap (λ g. op (member e xs) (op (member g xs) (held fs xs))) (compare-equal e f h)
    held-insert-at e f fs xs ih Greater h =
        ap (op (member f xs)) ih ∙ left_comm (member f xs) (member e xs) (held fs xs)

    held-insert : (e : Expression) (fs : List Expression) (xs : List ℕ) → held (insert e fs) xs ≡ op (member e xs) (held fs xs)
    held-insert e [] xs = refl
    held-insert e (f ∷ fs) xs = held-insert-at e f fs xs (held-insert e fs xs) (compare e f) refl

    held-insert_each : (es fs : List Expression) (xs : List ℕ) → held (insert_each es fs) xs ≡ op (held es xs) (held fs xs)
    held-insert_each [] fs xs = sym (unit_left (held fs xs))
    held-insert_each (e ∷ es) fs xs =
        held-insert_each es (insert e fs) xs
        ∙ ap (op (held es xs)) (held-insert e fs xs)
        ∙ left_comm (held es xs) (member e xs) (held fs xs)
        ∙ sym (assoc (member e xs) (held es xs) (held fs xs))

    held-append : (es fs : List Expression) (xs : List ℕ) → held (es ++ fs) xs ≡ op (held es xs) (held fs xs)
    held-append [] fs xs = sym (unit_left (held fs xs))
    held-append (e ∷ es) fs xs =
        ap (op (member e xs)) (held-append es fs xs) ∙ sym (assoc (member e xs) (held es xs) (held fs xs))

    -- each member is what its parts hold together
    module _ (parts : Expression → List Expression) (whole : (e : Expression) (xs : List ℕ) → held (parts e) xs ≡ member e xs) where
      held-flat : (es : List Expression) (xs : List ℕ) → held (flat_map parts es) xs ≡ held es xs
      held-flat [] xs = refl
      held-flat (e ∷ es) xs =
          held-append (parts e) (flat_map parts es) xs
          ∙ ap (λ b. op b (held (flat_map parts es) xs)) (whole e xs)
          ∙ ap (op (member e xs)) (held-flat es xs)

      held-sorted : (es : List Expression) (xs : List ℕ) → held (sorted (flat_map parts es)) xs ≡ held es xs
      held-sorted es xs = held-insert_each (flat_map parts es) [] xs ∙ unit_right (held (flat_map parts es) xs) ∙ held-flat es xs

-- alternations

-- a member of the list holds it
abbrev pub in_some : List Expression → Language
in_some es xs = some_member (expressions_of es) xs

abbrev pub in_each : List Expression → Language
in_each es xs = each_member (expressions_of es) xs

pub in_some-list_of : (es : Expressions) (xs : List ℕ) → in_some (list_of es) xs ≡ some_member es xs
in_some-list_of none xs = refl
in_some-list_of (more e es) xs = ap (λ b. member e xs || b) (in_some-list_of es xs)

pub in_each-list_of : (es : Expressions) (xs : List ℕ) → in_each (list_of es) xs ≡ each_member es xs
in_each-list_of none xs = refl
in_each-list_of (more e es) xs = ap (λ b. member e xs && b) (in_each-list_of es xs)

in_some-parts : (e : Expression) (xs : List ℕ) → in_some (either_parts e) xs ≡ member e xs
in_some-parts never xs = refl
in_some-parts (either es) xs = in_some-list_of es xs
in_some-parts e xs = or-false (member e xs)

in_some-held : (es : List Expression) (xs : List ℕ) → in_some es xs ≡ held (λ a b. a || b) false es xs
in_some-held [] xs = refl
in_some-held (e ∷ es) xs = ap (λ b. member e xs || b) (in_some-held es xs)

in_some-sorted : (es : List Expression) (xs : List ℕ) → in_some (sorted (flat_map either_parts es)) xs ≡ in_some es xs
in_some-sorted es xs =
    in_some-held (sorted (flat_map either_parts es)) xs
    ∙ held-sorted (λ a b. a || b) false (λ a. refl) or-false or_assoc or_left_comm or_self_left either_parts (λ e xs. sym (in_some-held (either_parts e) xs) ∙ in_some-parts e xs) es xs
    ∙ sym (in_some-held es xs)

member-either_from : (es : List Expression) (xs : List ℕ) → member (either_from es) xs ≡ in_some es xs
member-either_from [] xs = refl
member-either_from (e ∷ []) xs = sym (or-false (member e xs))
member-either_from (e ∷ f ∷ fs) xs = refl

member-is_all : (e : Expression) (xs : List ℕ) → is_all e ≡ true → member e xs ≡ true
member-is_all (complement never) xs h = refl
member-is_all e xs h = cc

in_some-some_all : (es : List Expression) (xs : List ℕ) → list_any is_all es ≡ true → in_some es xs ≡ true
in_some-some_all [] xs h = cc
in_some-some_all (e ∷ es) xs h =
    ⊎_elim (λ k. ap (λ b. b || in_some es xs) (member-is_all e xs k)) (λ k. ap (λ b. member e xs || b) (in_some-some_all es xs k) ∙ or-true (member e xs))
    (or_cases (is_all e) (list_any is_all es) h)

all-or : (b : Bool) (fs : List Expression) (xs : List ℕ) → list_any is_all fs ≡ b → member (cond b all (either_from fs)) xs ≡ in_some fs xs
all-or true fs xs h = sym (in_some-some_all fs xs h)
all-or false fs xs h = member-either_from fs xs

pub member-either_of : (es : List Expression) (xs : List ℕ) → member (either_of es) xs ≡ in_some es xs
member-either_of es xs =
    all-or (list_any is_all (sorted (flat_map either_parts es))) (sorted (flat_map either_parts es)) xs refl ∙ in_some-sorted es xs

-- intersections

in_each-parts : (e : Expression) (xs : List ℕ) → in_each (both_parts e) xs ≡ member e xs
in_each-parts (complement never) xs = refl
in_each-parts (both es) xs = in_each-list_of es xs
in_each-parts e xs = and-true (member e xs)

in_each-held : (es : List Expression) (xs : List ℕ) → in_each es xs ≡ held (λ a b. a && b) true es xs
in_each-held [] xs = refl
in_each-held (e ∷ es) xs = ap (λ b. member e xs && b) (in_each-held es xs)

in_each-sorted : (es : List Expression) (xs : List ℕ) → in_each (sorted (flat_map both_parts es)) xs ≡ in_each es xs
in_each-sorted es xs =
    in_each-held (sorted (flat_map both_parts es)) xs
    ∙ held-sorted (λ a b. a && b) true (λ a. refl) and-true and_assoc and_left_comm and_self_left both_parts (λ e xs. sym (in_each-held (both_parts e) xs) ∙ in_each-parts e xs) es xs
    ∙ sym (in_each-held es xs)

member-both_from : (es : List Expression) (xs : List ℕ) → member (both_from es) xs ≡ in_each es xs
member-both_from [] xs = refl
member-both_from (e ∷ []) xs = sym (and-true (member e xs))
member-both_from (e ∷ f ∷ fs) xs = refl

in_each-some_never : (es : List Expression) (xs : List ℕ) → list_any is_never es ≡ true → in_each es xs ≡ false
in_each-some_never [] xs h = cc
in_each-some_never (e ∷ es) xs h =
    ⊎_elim (λ k. ap (λ b. b && in_each es xs) (member-is_never e xs k)) (λ k. ap (λ b. member e xs && b) (in_each-some_never es xs k) ∙ and-false (member e xs))
    (or_cases (is_never e) (list_any is_never es) h)

never-or : (b : Bool) (fs : List Expression) (xs : List ℕ) → list_any is_never fs ≡ b → member (cond b never (both_from fs)) xs ≡ in_each fs xs
never-or true fs xs h = sym (in_each-some_never fs xs h)
never-or false fs xs h = member-both_from fs xs

pub member-both_of : (es : List Expression) (xs : List ℕ) → member (both_of es) xs ≡ in_each es xs
member-both_of es xs =
    never-or (list_any is_never (sorted (flat_map both_parts es))) (sorted (flat_map both_parts es)) xs refl ∙ in_each-sorted es xs
