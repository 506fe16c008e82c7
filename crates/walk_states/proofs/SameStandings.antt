-- Standings that are the same are equal.
use Rattle.std.proofs.Common.{◌≡◌, true, List, ◌∷◌, ◌⊎◌, inl, inr, refl, sym, ap, ◌∙◌}
use Rattle.std.specs.Prelude.{◌==◌}
use Rattle.std.specs.Cmp.{IsEquivalence}
use Rattle.std.specs.List.{list_any}
use Rattle.std.specs.Ordering.{is_eq}
use Rattle.std.proofs.lemmas.Bool.{and_parts, and_from, eqb-true, eq-eqb, or_cases, or_left, or_right}
use Rattle.list_law.proofs.Truth.{same_tests}
use Rattle.list_law.proofs.Orders.{is_eq-Equal}
use Rattle.path_exprs.specs.Expression.{either, expressions_of, list_of}
use Rattle.path_exprs.specs.Order.{compare_lists}
use Rattle.path_exprs.specs.Ordered.{lists-equal}
use Rattle.path_exprs.specs.Total.{compare_itself}
use Rattle.path_exprs.proofs.Lists.{list_of-expressions_of}
use Rattle.path_exprs.specs.Standings.{Standing, same_standing}

-- x is among these
abbrev pub Among : List Standing → Standing → Type 0
Among xs x = list_any (same_standing x) xs ≡ true

pub same-equal : (x y : Standing) → same_standing x y ≡ true → x ≡ y
same-equal x y h =
    let parts = and_parts (x.at == y.at) (is_eq (compare_lists (expressions_of x.left) (expressions_of y.left))) h in
    let at = eqb-true x.at y.at parts.0 in
    let lists = lists-equal (expressions_of x.left) (expressions_of y.left) (is_eq-Equal _ parts.1) in
    let left : x.left ≡ y.left = sym (list_of-expressions_of x.left) ∙ ap list_of lists ∙ list_of-expressions_of y.left in
    λ i. record { at = at i; left = left i }

pub same-itself : (x : Standing) → same_standing x x ≡ true
same-itself x =
    and_from (x.at == x.at) (is_eq (compare_lists (expressions_of x.left) (expressions_of x.left)))
    (eq-eqb x.at x.at refl)
    (ap is_eq (compare_itself (either (expressions_of x.left))))

pub equal-same : (x y : Standing) → x ≡ y → same_standing x y ≡ true
equal-same x y h = ap (same_standing x) (sym h) ∙ same-itself x

pub standings_equivalence : IsEquivalence same_standing
standings_equivalence = record {
  refl = same-itself;
  symm = λ x y. same_tests _ _ (λ h. equal-same y x (sym (same-equal x y h))) (λ h. equal-same x y (sym (same-equal y x h)));
  congr = λ x y z h. ap (λ w. same_standing w z) (same-equal x y h);
}

pub among-head : (x y : Standing) (ys : List Standing) → Among (y ∷ ys) x → (x ≡ y) ⊎ Among ys x
among-head x y ys h = elim (or_cases (same_standing x y) (list_any (same_standing x) ys) h) [ inl e ↦ inl (same-equal x y e) | inr e ↦ inr e ]

pub among-first : (x : Standing) (ys : List Standing) → Among (x ∷ ys) x
among-first x ys = or_left (same_standing x x) (list_any (same_standing x) ys) (same-itself x)

pub among-later : (x y : Standing) (ys : List Standing) → Among ys x → Among (y ∷ ys) x
among-later x y ys h = or_right (same_standing x y) (list_any (same_standing x) ys) h
