-- What the comparison of two policies is made of: the graphs of their cases, and what a pair of cases changes.
use Rattle.std.specs.Prelude.{◌≡◌, ℕ, Option}
use Rattle.net_base.specs.Network.{PlainNet, IsNet}
use Rattle.net_base.specs.Prefixes.{PlainPrefix, IsPrefix}
use Rattle.policy_base.specs.Policies.{PlainPolicy, IsPolicyOf}
use Rattle.graph_base.specs.Graphs.{PlainGraph}
use Rattle.pair_graph.specs.Room.{PassesRoom}
use Rattle.pair_graph.specs.declared.fault.PairFault.{PairFault}
use Rattle.pair_graph.specs.declared.fault.PairFault.TheVariants as fault
use Rattle.compare_base.specs.declared.cases.CasePair.{CasePair}
use Rattle.compare_base.specs.declared.rows.PairChange.{PairChange}
use Rattle.compare_base.specs.Cases.{pair_for}
use Rattle.case_graphs.specs.Graphs.{AreCaseGraphs, IsGraphFor}
use Rattle.case_graphs.specs.Limits.{AreAllWithin}
use Rattle.pair_changes.specs.Changes.{IsPairChange}
use Rattle.comparison_maker.specs.declared.graphs.BothGraphs.{BothGraphs}
use Rattle.comparison_maker.specs.declared.refusal.ComparisonRefusal.{ComparisonRefusal}
use Rattle.comparison_maker.specs.declared.refusal.ComparisonRefusal.TheVariants.{Old, New, TooManySteps, NoMemory}

-- These are the graphs of the cases of two policies for the network, and all the cases are within the limits.
pub record AreGraphsOfBoth (net : PlainNet) (old new : PlainPolicy) (graphs : BothGraphs) : Type 0 where
  pub rules : IsNet net
  pub is_old : IsPolicyOf net old
  pub is_new : IsPolicyOf net new
  pub old_graphs : AreCaseGraphs net old graphs.old
  pub new_graphs : AreCaseGraphs net new graphs.new
  pub old_within : AreAllWithin net old
  pub new_within : AreAllWithin net new

-- this changes for every prefix that has these cases
abbrev pub IsChangeFor : PlainNet → PlainPolicy → PlainPolicy → CasePair → PairChange → Type 0
IsChangeFor net old new cases change = (p : PlainPrefix) → IsPrefix p → pair_for old new p ≡ cases → IsPairChange net old new p change

-- the refusal where the graph of a pair of cases isn't made
abbrev pub refusal_for : CasePair → PairFault → ComparisonRefusal
refusal_for cases fault.TooManySteps = TooManySteps cases.old.statement cases.new.statement
refusal_for cases fault.NoMemory = NoMemory

-- the graph of the pairs of nodes of the two cases has more steps than there is room for, and the refusal names the two statements
pub record PassesAt (net : PlainNet) (old new : PlainPolicy) (cases : CasePair) (room : ℕ) (one other : Option ℕ) : Type 0 where
  pub before : PlainGraph
  pub after : PlainGraph
  pub is_before : IsGraphFor net old cases.old before
  pub is_after : IsGraphFor net new cases.new after
  pub passes : PassesRoom before after room
  pub is_one : one ≡ cases.old.statement
  pub is_other : other ≡ cases.new.statement

-- why a pair of cases isn't compared: its graph has more steps than there is room for, or memory was refused
abbrev pub IsRefusedAt : PlainNet → PlainPolicy → PlainPolicy → CasePair → ℕ → ComparisonRefusal → Type 0
IsRefusedAt net old new cases room (Old e) = ⊥
IsRefusedAt net old new cases room (New e) = ⊥
IsRefusedAt net old new cases room (TooManySteps one other) = PassesAt net old new cases room one other
IsRefusedAt net old new cases room NoMemory = Unit {0}
