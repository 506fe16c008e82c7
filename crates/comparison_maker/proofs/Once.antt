-- A pair of cases has one count of steps, and one pair at most is the first with which there are too many.
use Rattle.std.proofs.Common.{◌≡◌, ℕ, suc, ◌+◌, ◌-◌, ◌<◌, ◌≤◌, List, [], ◌∷◌, length, Option, Some, refl, sym, ap, subst, ◌∙◌, inl, inr, arith}
use Rattle.std.specs.Prelude.{slice_get}
use Rattle.std.proofs.lemmas.Bool.{cases_eq, cases_order}
use Rattle.std.proofs.lemmas.List.Sums.{sum_by-cons}
use Rattle.std.proofs.lemmas.Option.{same_Some, slice_get_within}
use Rattle.list_law.proofs.Items.{same_item, slice_get_inside}
use Rattle.net_base.specs.Network.{PlainNet}
use Rattle.policy_base.specs.Policies.{IsPolicyOf, PlainPolicy}
use Rattle.graph_base.specs.Graphs.{PlainGraph}
use Rattle.pair_graph.specs.Room.{HasPairSteps}
use Rattle.pair_graph.proofs.Ways.{one_count, room_is_passed}
use Rattle.compare_base.specs.declared.cases.CasePair.{CasePair}
use Rattle.compare_base.specs.declared.cases.PrefixCase.{PrefixCase}
use Rattle.compare_base.specs.declared.pairs.Pair.{Pair}
use Rattle.policy_pairs.proofs.OnePairs.{one_pairs}
use Rattle.evidence_law.specs.Passes.{all_steps}
use Rattle.case_core.proofs.OneCause.{same_made}
use Rattle.case_graphs.specs.Graphs.{HasCase, IsGraphFor}
use Rattle.comparison_maker.specs.declared.limits.TheConstants.{PAIR_STEPS}
use Rattle.comparison_maker.specs.Compared.{PassesAt}
use Rattle.comparison_maker.specs.Refusals.{AreStepsWithin, HasSteps, HaveSteps, PassesSteps, sum_of}

-- ---- one graph and one count

-- A case has one graph. Whether the policy has the case isn't decided here, so this is said of what doesn't hold.
one_graph : (net : PlainNet) (policy : PlainPolicy) (of : PrefixCase) (g h : PlainGraph) → IsGraphFor net policy of g → IsGraphFor net policy of h → (g ≡ h → ⊥) → ⊥
one_graph net policy of g h a b never = never (a.none none ∙ sym (b.none none))
  where
    none : HasCase net policy of → ⊥
    none has =
        let one = a.made has.0 has.1 has.2 has.3 has.4 in
        let other = b.made has.0 has.1 has.2 has.3 has.4 in
        never (same_made net all_steps has.1 has.2 one.0 other.0 g h one.1 other.1)

module _ (net : PlainNet) (old new : PlainPolicy) (cases : CasePair) where
  at_graphs : (g g' h h' : PlainGraph) (n : ℕ) → g ≡ g' → h ≡ h' → HasPairSteps g h n → HasPairSteps g' h' n
  at_graphs g g' h h' n was is has = subst (λ (x : PlainGraph). HasPairSteps g' x n) is (subst (λ (x : PlainGraph). HasPairSteps x h n) was has)

  pub one_count_of : (m n : ℕ) → HasSteps net old new cases m → HasSteps net old new cases n → m ≡ n
  one_count_of m n a b = elim (cases_eq m n) [
    | inl same ↦ same
    | inr other ↦ absurd (one_graph net old cases.old a.before b.before a.is_before b.is_before (λ was.
        one_graph net new cases.new a.after b.after a.is_after b.is_after (λ is.
        other (one_count b.before b.after m n (at_graphs a.before b.before a.after b.after m was is a.steps) b.steps))))
  ]

  -- where there is no room for its steps, they are more
  more_than_room : (count room : ℕ) (one other : Option ℕ) → HasSteps net old new cases count → PassesAt net old new cases room one other → (room < count → ⊥) → ⊥
  more_than_room count room one other a p never =
      one_graph net old cases.old a.before p.before a.is_before p.is_before (λ was.
      one_graph net new cases.new a.after p.after a.is_after p.is_after (λ is.
      never (room_is_passed p.before p.after count room (at_graphs a.before p.before a.after p.after count was is a.steps) p.passes)))

-- ---- counts of the first pairs

-- counts that go on as others do come to as much, and the next one
front_sum : (xs ys : List ℕ) (c : ℕ) → ((i x y : ℕ) → slice_get xs i ≡ Some x → slice_get ys i ≡ Some y → x ≡ y) → slice_get ys (length xs) ≡ Some c → sum_of xs + c ≤ sum_of ys
front_sum [] [] c same at = absurd cc
front_sum [] (y ∷ ys) c same at = let here = same_Some y c at in omega (arith, here, sum_by-cons (λ (n : ℕ). n) y ys)
front_sum (x ∷ xs) [] c same at = absurd cc
front_sum (x ∷ xs) (y ∷ ys) c same at =
    let rest = front_sum xs ys c (λ i v w at_v at_w. same (suc i) v w at_v at_w) at in
    omega (arith, same 0 x y refl refl, rest, sum_by-cons (λ (n : ℕ). n) x xs, sum_by-cons (λ (n : ℕ). n) y ys)

module _ (net : PlainNet) (old new : PlainPolicy) where
  -- no more pairs are within the limit than those before the one that passes it
  no_further : (one other : Option ℕ) (p : PassesSteps net old new one other) (counts : List ℕ) → HaveSteps net old new p.pairs counts → sum_of counts ≤ PAIR_STEPS
      → length p.counts < length counts → ⊥
  no_further one other p counts have within longer =
      let next = slice_get_inside counts (length p.counts) longer in
      let sums = front_sum p.counts counts next.0 same_counts next.1 in
      more_than_room net old new p.pair.cases next.0 (PAIR_STEPS - sum_of p.counts) one other (have (length p.counts) p.pair next.0 p.next next.1) p.passes
      (λ more. absurd (omega (arith, more, sums, within, p.within)))
    where
      same_counts : (i x y : ℕ) → slice_get p.counts i ≡ Some x → slice_get counts i ≡ Some y → x ≡ y
      same_counts i x y at_x at_y =
          let pair = slice_get_inside p.pairs i (omega (arith, slice_get_within p.counts i x at_x, slice_get_within p.pairs (length p.counts) p.pair p.next)) in
          one_count_of net old new pair.0.cases x y (p.have i pair.0 x pair.1 at_x) (have i pair.0 y pair.1 at_y)

  module _ (kept : IsPolicyOf net old) (kept_too : IsPolicyOf net new) where
    -- where a pair passes the limit, the pairs aren't within it
    pub within_or_passed : (one other : Option ℕ) → PassesSteps net old new one other → AreStepsWithin net old new → ⊥
    within_or_passed one other p w =
        let pairs = one_pairs net old new kept kept_too w.pairs p.pairs w.are p.are in
        no_further one other p w.counts (subst (λ (ps : List Pair). HaveSteps net old new ps w.counts) pairs w.have) w.within
        (omega (arith, w.all, ap length pairs, slice_get_within p.pairs (length p.counts) p.pair p.next))

    -- and it is one pair
    pub one_passes : (one other this that : Option ℕ) → PassesSteps net old new one other → PassesSteps net old new this that → (one ≡ this) × (other ≡ that)
    one_passes one other this that p q = elim (cases_order (length p.counts) (length q.counts)) [
      | inl same ↦
          let at = ap (λ (ps : List Pair). slice_get ps (length q.counts)) pairs ∙ q.next in
          let pair = same_item p.pairs (length p.counts) (length q.counts) p.pair q.pair p.next at same in (
            p.passes.is_one ∙ ap (λ (x : Pair). x.cases.old.statement) pair ∙ sym q.passes.is_one,
            p.passes.is_other ∙ ap (λ (x : Pair). x.cases.new.statement) pair ∙ sym q.passes.is_other,
          )
      | inr (inl less) ↦ absurd (no_further one other p q.counts (subst (λ (ps : List Pair). HaveSteps net old new ps q.counts) (sym pairs) q.have) q.within less)
      | inr (inr more) ↦ absurd (no_further this that q p.counts (subst (λ (ps : List Pair). HaveSteps net old new ps p.counts) pairs p.have) p.within more)
    ]
      where
        pairs : p.pairs ≡ q.pairs
        pairs = one_pairs net old new kept kept_too p.pairs q.pairs p.are q.are
