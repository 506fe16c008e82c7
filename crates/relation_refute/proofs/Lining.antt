-- The order of lines.
use Rattle.std.proofs.Common.{◌≡◌, ℕ, zero, suc, ◌+◌, ◌<◌, ◌≤◌, Bool, true, List, [], ◌∷◌, ◌++◌, length, Some, arith, sym, ap, ap₂, ◌∙◌, inl, inr}
use Rattle.std.specs.Prelude.{slice_get}
use Rattle.std.specs.Cmp.{IsTotalOrder}
use Rattle.std.specs.List.Sorted.{IsStrictlySortedBy}
use Rattle.std.specs.Ordering.{nat_cmp, eq_by_cmp}
use Rattle.std.specs.declared.cmp.Ordering.TheVariants.{Less}
use Rattle.std.proofs.lemmas.Bool.{cases_lt}
use Rattle.std.proofs.lemmas.List.{length_push}
use Rattle.std.proofs.lemmas.Option.{slice_get_within}
use Rattle.std.proofs.lemmas.Cmp.{nat_cmp_total, on_total, then_total}
use Rattle.list_law.proofs.Orders.{is_eq-nat_cmp, is_eq-ordering_then, nat_cmp-Equal, nat_cmp-Less, ordering_then-Less, is_eq-ordering_then_parts, is_eq-nat_cmp_same}
use Rattle.graph_base.specs.declared.refutation.Removed.{Removed}
use Rattle.list_law.proofs.Items.{slice_get-append_left, slice_get-there}
use Rattle.list_law.proofs.Truth.{and_alike}
use Rattle.relation_law.specs.Choosing.{Goes, IsEarlier}
use Rattle.relation_law.specs.Views.{View}
use Rattle.relation_refute.specs.declared.chains.Line.{Line}
use Rattle.relation_refute.specs.contracts.chains.LinePartialEq.TheImpl.{ghosts as LineEq}
use Rattle.relation_refute.specs.Lines.{AreLinesOf, line_order}

pub line_total : IsTotalOrder line_order
line_total =
    then_total (on_total (λ (l : Line). l.round) nat_cmp_total)
    (then_total (on_total (λ (l : Line). l.router) nat_cmp_total)
    (then_total (on_total (λ (l : Line). l.better) nat_cmp_total) (on_total (λ (l : Line). l.worse) nat_cmp_total)))

pub line_exact : (a b : Line) → eq_by_cmp line_order a b ≡ true → a ≡ b
line_exact a b h =
    let by_round = is_eq-ordering_then_parts (nat_cmp a.round b.round) _ h in
    let by_router = is_eq-ordering_then_parts (nat_cmp a.router b.router) _ by_round.1 in
    let by_better = is_eq-ordering_then_parts (nat_cmp a.better b.better) _ by_router.1 in
    let round = is_eq-nat_cmp_same a.round b.round by_round.0 in
    let router = is_eq-nat_cmp_same a.router b.router by_router.0 in
    let better = is_eq-nat_cmp_same a.better b.better by_better.0 in
    let worse = is_eq-nat_cmp_same a.worse b.worse by_better.1 in
    λ i. record { round = round i; router = router i; better = better i; worse = worse i }

pub line_ties : (a b : Line) → (LineEq).eq a b ≡ eq_by_cmp line_order a b
line_ties a b =
    sym
    (is_eq-ordering_then (nat_cmp a.round b.round) _ ∙ and_alike (is_eq-nat_cmp a.round b.round)
    (is_eq-ordering_then (nat_cmp a.router b.router) _ ∙ and_alike (is_eq-nat_cmp a.router b.router)
    (is_eq-ordering_then (nat_cmp a.better b.better) _ ∙ and_alike (is_eq-nat_cmp a.better b.better) (is_eq-nat_cmp a.worse b.worse))))

pub line_earlier : (a b : Line) → line_order a b ≡ Less → IsEarlier (a.round, a.router, a.better, a.worse) (b.round, b.router, b.better, b.worse)
line_earlier a b h = elim (ordering_then-Less (nat_cmp a.round b.round) _ h) [
  | inl t ↦ inl (nat_cmp-Less a.round b.round t)
  | inr t ↦ inr (
    nat_cmp-Equal a.round b.round t.0,
    elim (ordering_then-Less (nat_cmp a.router b.router) _ t.1) [
      | inl u ↦ inl (nat_cmp-Less a.router b.router u)
      | inr u ↦ inr (
        nat_cmp-Equal a.router b.router u.0,
        elim (ordering_then-Less (nat_cmp a.better b.better) _ u.1) [
          | inl v ↦ inl (nat_cmp-Less a.better b.better v)
          | inr v ↦ inr (nat_cmp-Equal a.better b.better v.0, nat_cmp-Less a.worse b.worse v.1)
        ],
      )
    ],
  )
]

-- each line comes before the next one
pub lines_ascend : (lines : List Line) → IsStrictlySortedBy line_order lines → (i : ℕ) (k l : Line) → slice_get lines i ≡ Some k → slice_get lines (suc i) ≡ Some l → line_order k l ≡ Less
unfolding IsStrictlySortedBy
lines_ascend [] sorted i k l a b = absurd (cc)
lines_ascend (x ∷ []) sorted zero k l a b = absurd (cc)
lines_ascend (x ∷ []) sorted (suc i) k l a b = absurd (cc)
lines_ascend (x ∷ y ∷ ys) sorted zero k l a b = (let one : x ≡ k = cc in let other : y ≡ l = cc in ap₂ line_order (sym one) (sym other) ∙ sorted.0.0)
lines_ascend (x ∷ y ∷ ys) sorted (suc i) k l a b = lines_ascend (y ∷ ys) sorted.1 i k l a b

-- ---- the lines with their reasons, one after another

module _ (v : View) (reach : ℕ → ℕ → Bool) (lines : List Line) where
  -- the first lines have theirs
  pub record AreReasoned (count : ℕ) (removed : List Removed) : Type 0 where
    pub within : count ≤ length lines
    pub len : length removed ≡ count
    pub each : (i : ℕ) (l : Line) → i < count → slice_get lines i ≡ Some l
        → (r : Removed) × (slice_get removed i ≡ Some r) × (r.better ≡ l.better) × (r.worse ≡ l.worse) × (r.round ≡ l.round)
        × Goes v reach r.better r.worse r.round r.why

  pub reasoned_more : (count : ℕ) (removed new : List Removed) (l : Line) (r : Removed) → AreReasoned count removed → slice_get lines count ≡ Some l
      → new ≡ removed ++ r ∷ [] → r.better ≡ l.better → r.worse ≡ l.worse → r.round ≡ l.round → Goes v reach r.better r.worse r.round r.why
      → AreReasoned (count + 1) new
  reasoned_more count removed new l r are at pushed better worse round goes = record {
    within = (let inside = slice_get_within lines count l at in omega (arith, inside));
    len = ap length pushed ∙ length_push removed r ∙ ap (λ z. z + 1) are.len;
    each = λ i k lt here. elim (cases_lt i count) [
      | inl t ↦ (
          let x = are.each i k t here in
          let inside : i < length removed = (let len = are.len in omega (arith, t, len)) in
          (x.0, ap (λ xs. slice_get xs i) pushed ∙ slice_get-append_left removed (r ∷ []) i inside ∙ x.1, x.2, x.3, x.4, x.5))
      | inr t ↦ (
          let last : count ≡ i = omega (arith, lt, t) in
          let both : Some l ≡ Some k = sym at ∙ ap (slice_get lines) last ∙ here in
          let same : l ≡ k = cc in
          let len : length removed ≡ i = are.len ∙ last in (
            r,
            ap (λ xs. slice_get xs i) pushed ∙ ap (slice_get (removed ++ r ∷ [])) (sym len) ∙ slice_get-there removed r [],
            better ∙ ap (λ (z : Line). z.better) same,
            worse ∙ ap (λ (z : Line). z.worse) same,
            round ∙ ap (λ (z : Line). z.round) same,
            goes,
          ))
    ];
  }

  pub reasoned_all : (count : ℕ) (removed : List Removed) → AreReasoned count removed → length lines ≤ count → AreLinesOf v reach lines removed
  reasoned_all count removed are past = (let within = are.within in let len = are.len in record {
    len = omega (arith, within, len, past);
    each = λ i l at. (let inside = slice_get_within lines i l at in are.each i l (omega (arith, inside, past)) at);
  })
