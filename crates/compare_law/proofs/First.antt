-- A row has one first walk at most.
use Rattle.std.proofs.Common.{◌≡◌, ℕ, ◌≤◌, List, [], ◌∷◌, length, reverse, Option, refl, sym, ap, ap₂, ◌∙◌, subst, le_antisymm, arith}
use Rattle.std.proofs.lemmas.List.{length-reverse, reverse-reverse}
use Rattle.net_base.specs.Network.{PlainNet}
use Rattle.net_base.specs.Prefixes.{PlainPrefix}
use Rattle.policy_base.specs.Policies.{PlainPolicy}
use Rattle.compare_base.specs.declared.rows.Row.{Row}
use Rattle.compare_base.specs.Ranks.{rank_for, IsFirstWalk, IsNoLater}
use Rattle.compare_law.specs.Laws.{FirstWalksAreOne}

-- of two lists that are as long, neither of which is later, both are one
both_first : (xs ys : List ℕ) → length xs ≡ length ys → IsNoLater xs ys → IsNoLater ys xs → xs ≡ ys
both_first [] [] long one two = refl
both_first [] (y ∷ ys) long one two = absurd (omega (arith, long))
both_first (x ∷ xs) [] long one two = absurd (omega (arith, long))
both_first (x ∷ xs) (y ∷ ys) long one two =
    let same : x ≡ y = le_antisymm one.0 two.0 in
    let rest = both_first xs ys (omega (arith, long)) (one.1 same) (two.1 (sym same)) in
    ap₂ (λ (l : ℕ) (ls : List ℕ). l ∷ ls) same rest

module _ (net : PlainNet) (old new : PlainPolicy) (p : PlainPrefix) (r : ℕ) (peer : Option ℕ) (row : Row) where
  -- a first walk is no longer than another walk of the row, and where it's as long, no later
  against : (walk other : List ℕ) → IsFirstWalk net old new p r peer row walk → IsFirstWalk net old new p r peer row other
      → (length walk ≤ length other) × (length walk ≡ length other → IsNoLater (reverse walk) (reverse other))
  against walk other one two =
      let rest = two.begins in
      subst (λ (q : List ℕ). (length walk ≤ length q) × (length walk ≡ length q → IsNoLater (reverse walk) (reverse q))) (sym rest.1)
      (one.first rest.0 (ap (rank_for net old p) (sym rest.1) ∙ two.in_old) (ap (rank_for net new p) (sym rest.1) ∙ two.in_new))

  one_walk : (walk other : List ℕ) → IsFirstWalk net old new p r peer row walk → IsFirstWalk net old new p r peer row other → walk ≡ other
  one_walk walk other one two =
      let there = against walk other one two in
      let back = against other walk two one in
      let long : length walk ≡ length other = le_antisymm there.0 back.0 in
      let turned = both_first (reverse walk) (reverse other) (length-reverse walk ∙ long ∙ sym (length-reverse other)) (there.1 long) (back.1 (sym long)) in
      sym (reverse-reverse walk) ∙ ap reverse turned ∙ reverse-reverse other

pub first_walks : FirstWalksAreOne
first_walks net old new p r peer row walk other one two = one_walk net old new p r peer row walk other one two
