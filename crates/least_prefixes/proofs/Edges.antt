-- The bounds of a policy, from those of its items and its statements, and how they are settled.
use Rattle.std.proofs.Common.{◌≡◌, ℕ, Bool, List, true, eqb, refl, sym, ap, ◌∙◌, subst}
use Rattle.std.specs.Prelude.{◌||◌, ◌==◌}
use Rattle.std.specs.List.{list_any, dedup}
use Rattle.std.specs.List.Sorted.{IsPermutation, IsSorted, IsStrictlySortedBy}
use Rattle.std.specs.Ordering.{nat_cmp}
use Rattle.std.proofs.lemmas.Bool.{eq-eqb, eqb-true}
use Rattle.std.proofs.lemmas.List.Kept.{Contains-dedup_nat, Contains-from_dedup}
use Rattle.std.proofs.lemmas.List.Sorted.{list_any-IsPermutation}
use Rattle.std.proofs.lemmas.Map.Keys.{IsStrictlyIncreasing-dedup, sorted_from_strictly_increasing}
use Rattle.std.proofs.Math.Bool.{or_assoc}
use Rattle.list_law.specs.Members.{IsIn}
use Rattle.list_law.proofs.Members.{Contains-from_IsIn, IsIn-from_Contains, list_any_member, list_any-from_IsIn}
use Rattle.list_law.proofs.Tests.{list_any-map}
use Rattle.list_law.proofs.Truth.{same_tests}
use Rattle.policy_base.specs.declared.policy.Statement.{Statement}
use Rattle.policy_base.specs.Policies.{PlainStatement, PolicyLists, policy_of, plain_statement}
use Rattle.least_prefixes.specs.Bounds.{bounds_origin, bounds_pattern, has, is_bound}

pub policy_bounds : (policy : PolicyLists) (x : ℕ) (before between after : Bool) → between ≡ (before || bounds_origin policy.origins x)
    → after ≡ (between || list_any (λ (s : Statement). bounds_pattern s.patterns x) policy.statements) → after ≡ (before || is_bound (policy_of policy) x)
policy_bounds policy x before between after origins statements =
    statements ∙ ap (λ b. b || list_any (λ (s : Statement). bounds_pattern s.patterns x) policy.statements) origins
    ∙ or_assoc before (bounds_origin policy.origins x) (list_any (λ (s : Statement). bounds_pattern s.patterns x) policy.statements)
    ∙ ap (λ b. before || (bounds_origin policy.origins x || b)) (sym (list_any-map (λ (s : PlainStatement). bounds_pattern s.patterns x) plain_statement policy.statements))

has_in : (xs : List ℕ) (n : ℕ) → has xs n ≡ true → IsIn xs n
has_in xs n h = let m = list_any_member (λ x. x == n) xs h in subst (IsIn xs) (eqb-true m.0 n m.2) m.1

in_has : (xs : List ℕ) (n : ℕ) → IsIn xs n → has xs n ≡ true
in_has xs n h = list_any-from_IsIn (λ x. x == n) xs n h (eq-eqb n n refl)

pub settled_same : (xs ys zs : List ℕ) → IsPermutation xs ys → zs ≡ dedup eqb ys → (n : ℕ) → has zs n ≡ has xs n
settled_same xs ys zs permutation kept n =
    ap (λ ws. has ws n) kept
    ∙ same_tests (has (dedup eqb ys) n) (has ys n)
    (λ h. in_has ys n (IsIn-from_Contains ys n (Contains-from_dedup eqb ys n (Contains-from_IsIn (dedup eqb ys) n (has_in (dedup eqb ys) n h)))))
    (λ h. in_has (dedup eqb ys) n (IsIn-from_Contains (dedup eqb ys) n (Contains-dedup_nat ys n (Contains-from_IsIn ys n (has_in ys n h)))))
    ∙ sym (list_any-IsPermutation (λ x. x == n) xs ys permutation)

pub settled_order : (ys zs : List ℕ) → IsSorted nat_cmp ys → zs ≡ dedup eqb ys → IsStrictlySortedBy nat_cmp zs
settled_order ys zs sorted kept = subst (IsStrictlySortedBy nat_cmp) (sym kept) (sorted_from_strictly_increasing (dedup eqb ys) (IsStrictlyIncreasing-dedup ys sorted))
