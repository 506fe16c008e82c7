-- Why two policies are not compared.
use Rattle.std.specs.Prelude.{◌≡◌, ℕ, ◌-◌, ◌≤◌, List, length, slice_get, sum_by, Option, Some}
use Rattle.net_base.specs.Network.{PlainNet}
use Rattle.policy_base.specs.Policies.{PlainPolicy}
use Rattle.graph_base.specs.Graphs.{PlainGraph}
use Rattle.pair_graph.specs.Room.{HasPairSteps}
use Rattle.compare_base.specs.declared.cases.CasePair.{CasePair}
use Rattle.compare_base.specs.declared.pairs.Pair.{Pair}
use Rattle.policy_pairs.specs.Pairs.{ArePairs}
use Rattle.case_graphs.specs.Graphs.{IsGraphFor}
use Rattle.case_graphs.specs.Limits.{AreAllWithin, IsRefused}
use Rattle.comparison_maker.specs.Compared.{PassesAt}
use Rattle.comparison_maker.specs.declared.limits.TheConstants.{PAIR_STEPS}
use Rattle.comparison_maker.specs.declared.refusal.ComparisonRefusal.{ComparisonRefusal}
use Rattle.comparison_maker.specs.declared.refusal.ComparisonRefusal.TheVariants.{Old, New, TooManySteps, NoMemory}

-- the graph of the pairs of nodes of the two cases has so many steps
pub record HasSteps (net : PlainNet) (old new : PlainPolicy) (cases : CasePair) (count : ℕ) : Type 0 where
  pub before : PlainGraph
  pub after : PlainGraph
  pub is_before : IsGraphFor net old cases.old before
  pub is_after : IsGraphFor net new cases.new after
  pub steps : HasPairSteps before after count

-- the graphs of the first pairs have so many steps, one after the other
abbrev pub HaveSteps : PlainNet → PlainPolicy → PlainPolicy → List Pair → List ℕ → Type 0
HaveSteps net old new pairs counts = (i : ℕ) (pair : Pair) (count : ℕ) → slice_get pairs i ≡ Some pair → slice_get counts i ≡ Some count → HasSteps net old new pair.cases count

abbrev pub sum_of : List ℕ → ℕ
sum_of counts = sum_by (λ (n : ℕ). n) counts

-- The graphs of the pairs before have no more steps together than there may be, and with that of this pair, which has these two statements, there are more.
pub record PassesSteps (net : PlainNet) (old new : PlainPolicy) (one other : Option ℕ) : Type 0 where
  pub pairs : List Pair
  pub are : ArePairs net old new pairs
  pub counts : List ℕ
  pub have : HaveSteps net old new pairs counts
  pub within : sum_of counts ≤ PAIR_STEPS
  pub pair : Pair
  pub next : slice_get pairs (length counts) ≡ Some pair
  pub passes : PassesAt net old new pair.cases (PAIR_STEPS - sum_of counts) one other

-- all pairs together have no more
pub record AreStepsWithin (net : PlainNet) (old new : PlainPolicy) : Type 0 where
  pub pairs : List Pair
  pub are : ArePairs net old new pairs
  pub counts : List ℕ
  pub all : length counts ≡ length pairs
  pub have : HaveSteps net old new pairs counts
  pub within : sum_of counts ≤ PAIR_STEPS

-- all cases of both policies are within the limits, and so are the graphs of their pairs
pub record AreComparable (net : PlainNet) (old new : PlainPolicy) : Type 0 where
  pub old_within : AreAllWithin net old
  pub new_within : AreAllWithin net new
  pub pairs_within : AreStepsWithin net old new

-- The first of the limits that is passed: one of a case of the old policy, one of a case of the new policy, or that on the graphs of pairs. Want of
-- memory says nothing.
abbrev pub IsRefusedFor : PlainNet → PlainPolicy → PlainPolicy → ComparisonRefusal → Type 0
IsRefusedFor net old new (Old e) = IsRefused net old e
IsRefusedFor net old new (New e) = AreAllWithin net old × IsRefused net new e
IsRefusedFor net old new (TooManySteps one other) = AreAllWithin net old × AreAllWithin net new × PassesSteps net old new one other
IsRefusedFor net old new NoMemory = Unit {0}
