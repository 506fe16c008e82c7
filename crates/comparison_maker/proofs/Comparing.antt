-- Pairs are compared one after the other, with one room for the steps of their graphs.
use Rattle.std.proofs.Common.{◌≡◌, ℕ, ◌+◌, ◌-◌, ◌≤◌, List, [], ◌∷◌, ◌++◌, length, map, Some, refl, sym, ap, subst, ◌∙◌, inl, inr, arith}
use Rattle.std.specs.Prelude.{slice_get}
use Rattle.std.proofs.lemmas.Bool.{cases_order}
use Rattle.std.proofs.lemmas.List.{length_push, map_push}
use Rattle.std.proofs.lemmas.List.Sums.{sum_by_push}
use Rattle.std.proofs.lemmas.Option.{slice_get_within}
use Rattle.list_law.specs.Members.{IsIn}
use Rattle.list_law.proofs.Items.{from_front, same_item, slice_get-there}
use Rattle.list_law.proofs.Members.{IsIn-nil, IsIn-push_cases}
use Rattle.net_base.specs.Network.{PlainNet}
use Rattle.policy_base.specs.Policies.{PlainPolicy}
use Rattle.compare_base.specs.declared.pairs.Pair.{Pair}
use Rattle.compare_base.specs.declared.rows.PairChange.{PairChange}
use Rattle.policy_pairs.specs.Pairs.{ArePairs}
use Rattle.comparison.specs.declared.values.ComparedPair.{ComparedPair}
use Rattle.comparison_law.specs.Comparisons.{IsComparison}
use Rattle.comparison_maker.specs.declared.graphs.BothGraphs.{BothGraphs}
use Rattle.comparison_maker.specs.declared.limits.TheConstants.{PAIR_STEPS}
use Rattle.comparison_maker.specs.declared.refusal.ComparisonRefusal.{ComparisonRefusal}
use Rattle.comparison_maker.specs.declared.refusal.ComparisonRefusal.TheVariants.{Old, New, TooManySteps, NoMemory}
use Rattle.comparison_maker.specs.Compared.{AreGraphsOfBoth, IsChangeFor, IsRefusedAt, PassesAt}
use Rattle.comparison_maker.specs.Refusals.{AreStepsWithin, HasSteps, HaveSteps, IsRefusedFor, sum_of}

-- the first of all pairs are compared, each with what it changes, and their graphs leave so much room
pub record AreComparedTo (net : PlainNet) (old new : PlainPolicy) (all done : List Pair) (xs : List ComparedPair) (room : ℕ) : Type 0 where
  pub pairs : map (λ (x : ComparedPair). x.pair) xs ≡ done
  pub changes : (x : ComparedPair) → IsIn xs x → IsChangeFor net old new x.pair.cases x.change
  pub counts : List ℕ
  pub size : length counts ≡ length done
  pub have : HaveSteps net old new all counts
  pub left : sum_of counts + room ≡ PAIR_STEPS

module _ (net : PlainNet) (old new : PlainPolicy) (all : List Pair) where
  pub none_yet : AreComparedTo net old new all [] [] PAIR_STEPS
  none_yet = record {
    pairs = refl;
    changes = λ x at. absurd (IsIn-nil x at);
    counts = [];
    size = refl;
    have = λ i pair count at there. absurd cc;
    left = omega arith;
  }

  have_more : (counts : List ℕ) (pair : Pair) (used : ℕ) → HaveSteps net old new all counts → slice_get all (length counts) ≡ Some pair → HasSteps net old new pair.cases used
      → HaveSteps net old new all (counts ++ used ∷ [])
  have_more counts pair used before next has i other count at there = elim (cases_order i (length counts)) [
    | inl same ↦
        let pairs : pair ≡ other = same_item all (length counts) i pair other next at (sym same) in
        let steps : used ≡ count = same_item (counts ++ used ∷ []) (length counts) i used count (slice_get-there counts used []) there (sym same) in
        subst (HasSteps net old new other.cases) steps (subst (λ (x : Pair). HasSteps net old new x.cases used) pairs has)
    | inr (inl less) ↦ before i other count at (from_front counts (used ∷ []) i count there less)
    | inr (inr more) ↦ absurd (omega (arith, more, slice_get_within (counts ++ used ∷ []) i count there, length_push counts used))
  ]

  -- one more pair is compared
  pub one_more : (done : List Pair) (xs : List ComparedPair) (room used left : ℕ) (pair : Pair) (change : PairChange) → AreComparedTo net old new all done xs room
      → slice_get all (length done) ≡ Some pair → IsChangeFor net old new pair.cases change → HasSteps net old new pair.cases used → used ≤ room → left ≡ room - used
      → AreComparedTo net old new all (done ++ pair ∷ []) (xs ++ record { pair = pair; change = change } ∷ []) left
  one_more done xs room used left pair change before next is has within rest =
      let x : ComparedPair = record { pair = pair; change = change } in
      record {
        pairs = map_push (λ (y : ComparedPair). y.pair) xs x ∙ ap (λ ys. ys ++ pair ∷ []) before.pairs;
        changes = λ y at. elim (IsIn-push_cases xs x y at) [
          | inl there ↦ before.changes y there
          | inr same ↦ subst (λ (z : ComparedPair). IsChangeFor net old new z.pair.cases z.change) same is
        ];
        counts = before.counts ++ used ∷ [];
        size = length_push before.counts used ∙ ap (λ n. n + 1) before.size ∙ sym (length_push done pair);
        have = have_more before.counts pair used before.have (ap (slice_get all) before.size ∙ next) has;
        left = omega (arith, rest, within, before.left, sum_by_push (λ (n : ℕ). n) before.counts used);
      }

  module _ (are : ArePairs net old new all) (xs : List ComparedPair) (room : ℕ) where
    -- all pairs that are compared are a comparison
    pub whole : AreComparedTo net old new all all xs room → IsComparison net old new xs
    whole done = record { pairs = subst (ArePairs net old new) (sym done.pairs) are; changes = λ x p at is same. done.changes x at p is same }

    -- and then their graphs are within the limit
    pub within_limit : AreComparedTo net old new all all xs room → AreStepsWithin net old new
    within_limit done = record { pairs = all; are = are; counts = done.counts; all = done.size; have = done.have; within = omega (arith, done.left) }

  -- what refuses the next pair refuses the comparison
  pub refused_next : (graphs : BothGraphs) (done : List Pair) (xs : List ComparedPair) (room : ℕ) (pair : Pair) (e : ComparisonRefusal) → AreGraphsOfBoth net old new graphs
      → ArePairs net old new all → AreComparedTo net old new all done xs room → slice_get all (length done) ≡ Some pair → IsRefusedAt net old new pair.cases room e
      → IsRefusedFor net old new e
  refused_next graphs done xs room pair (Old e) both are before next refused = absurd refused
  refused_next graphs done xs room pair (New e) both are before next refused = absurd refused
  refused_next graphs done xs room pair (TooManySteps one other) both are before next refused =
      let rest : room ≡ PAIR_STEPS - sum_of before.counts = omega (arith, before.left) in (
        both.old_within,
        both.new_within,
        record {
          pairs = all;
          are = are;
          counts = before.counts;
          have = before.have;
          within = omega (arith, before.left);
          pair = pair;
          next = ap (slice_get all) before.size ∙ next;
          passes = subst (λ (n : ℕ). PassesAt net old new pair.cases n one other) rest refused;
        },
      )
  refused_next graphs done xs room pair NoMemory both are before next refused = tt
