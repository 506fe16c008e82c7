-- Groups that are sorted by their turns are in turn.
use Rattle.std.proofs.Common.{◌≡◌, ◌⊎◌, ℕ, ◌<◌, ◌≤◌, false, List, get_or, refl, sym, ap, ◌∙◌, arith, inl, inr, eq-eqb}
use Rattle.std.specs.Cmp.{IsTotalOrder}
use Rattle.std.specs.List.Sorted.{IsSortedByKey}
use Rattle.std.specs.Ordering.{is_lt, nat_cmp, ordering_then}
use Rattle.std.specs.declared.cmp.Ordering.{Ordering}
use Rattle.std.specs.declared.cmp.Ordering.TheVariants.{Equal}
use Rattle.std.proofs.lemmas.Bool.{cases_lt, le-ltb, true≢false}
use Rattle.std.proofs.lemmas.Cmp.{nat_cmp_total, on_total, then_total}
use Rattle.std.proofs.lemmas.List.Sorted.{ranks_by, sorted_far}
use Rattle.std.proofs.lemmas.Option.{get_or_from_slice_get, slice_get_within}
use Rattle.list_law.proofs.Orders.{nat_cmp-lesser}
use Rattle.policy_pairs.specs.declared.groups.Group.{Group}
use Rattle.policy_pairs.specs.declared.pairs.Turn.{Turn}
use Rattle.policy_pairs.specs.Groups.{AreInTurn, turn_for}

abbrev turn_order : Turn → Turn → Ordering
turn_order a b = ordering_then (nat_cmp a.old b.old) (nat_cmp a.new b.new)

turn_total : IsTotalOrder turn_order
turn_total = then_total (on_total (λ (t : Turn). t.old) nat_cmp_total) (on_total (λ (t : Turn). t.new) nat_cmp_total)

nat_cmp-same : (x y : ℕ) → x ≡ y → nat_cmp x y ≡ Equal
nat_cmp-same x y e = rw (le-ltb x y (omega (arith, e)), eq-eqb x y e) refl

-- what isn't before another is no earlier
no_later : (a b : Turn) → is_lt (turn_order b a) ≡ false → (a.old < b.old) ⊎ ((a.old ≡ b.old) × (a.new ≤ b.new))
no_later a b up = elim (cases_lt b.old a.old) [
  | inl less ↦ absurd (true≢false (ap (λ o. is_lt (ordering_then o (nat_cmp b.new a.new))) (sym (nat_cmp-lesser b.old a.old less)) ∙ up))
  | inr most ↦ elim (cases_lt a.old b.old) [
    | inl less ↦ inl less
    | inr also ↦
        let same : a.old ≡ b.old = omega (arith, most, also) in
        inr (
          same,
          elim (cases_lt b.new a.new) [
            | inl less ↦
                let first = nat_cmp-same b.old a.old (sym same) in
                let second = nat_cmp-lesser b.new a.new less in
                absurd (true≢false (ap is_lt (λ i. ordering_then (sym first i) (sym second i)) ∙ up))
            | inr no_more ↦ no_more
          ],
        )
  ]
]

pub in_turn : (groups : List Group) → IsSortedByKey turn_for turn_order groups → AreInTurn groups
in_turn groups sorted i j g h less at_g at_h =
    let far = sorted_far (λ (x y : Group). is_lt (turn_order (turn_for x) (turn_for y))) (ranks_by turn_total turn_for) groups sorted i j g (omega (arith, less)) (slice_get_within groups j h at_h) in
    let one : get_or groups i g ≡ g = get_or_from_slice_get groups i g g at_g in
    let other : get_or groups j g ≡ h = get_or_from_slice_get groups j h g at_h in
    no_later (turn_for g) (turn_for h) (ap is_lt (λ k. turn_order (turn_for (sym other k)) (turn_for (sym one k))) ∙ far)
