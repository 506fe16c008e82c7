-- What the graphs of a pair of cases give.
use Rattle.std.proofs.Common.{◌≡◌, ℕ, refl, sym, ap, subst}
use Rattle.net_base.specs.Network.{PlainNet}
use Rattle.net_base.specs.Prefixes.{PlainPrefix}
use Rattle.policy_base.specs.Policies.{PlainPolicy}
use Rattle.graph_base.specs.Graphs.{IsGraph, PlainGraph}
use Rattle.pair_graph.specs.Room.{HasPairSteps, PassesRoom}
use Rattle.pair_graph.specs.declared.fault.PairFault.{PairFault}
use Rattle.pair_graph.specs.declared.fault.PairFault.TheVariants as fault
use Rattle.compare_base.specs.declared.cases.CasePair.{CasePair}
use Rattle.compare_base.specs.declared.cases.PrefixCase.{PrefixCase}
use Rattle.compare_base.specs.declared.rows.PairChange.{PairChange}
use Rattle.compare_base.specs.Cases.{case_for, pair_for}
use Rattle.case_graphs.specs.Graphs.{IsGraphFor, graph_in}
use Rattle.pair_changes.specs.Changes.{IsPairChange}
use Rattle.pair_changes.specs.Shown.{ShowsWalks}
use Rattle.comparison_maker.specs.declared.graphs.BothGraphs.{BothGraphs}
use Rattle.comparison_maker.specs.Compared.{AreGraphsOfBoth, IsChangeFor, IsRefusedAt, refusal_for}
use Rattle.comparison_maker.specs.Refusals.{HasSteps}
use Rattle.comparison_maker.specs.Shown.{CaseGraphsShowWalks}

module _ (net : PlainNet) (old new : PlainPolicy) (graphs : BothGraphs) (both : AreGraphsOfBoth net old new graphs) (cases : CasePair) (before after : PlainGraph)
    (is_before : before ≡ graph_in graphs.old cases.old) (is_after : after ≡ graph_in graphs.new cases.new) where
  pub of_old : IsGraphFor net old cases.old before
  of_old = subst (IsGraphFor net old cases.old) (sym is_before) (both.old_graphs cases.old)

  pub of_new : IsGraphFor net new cases.new after
  of_new = subst (IsGraphFor net new cases.new) (sym is_after) (both.new_graphs cases.new)

  -- the change is that of every prefix with these cases
  pub change_for : CaseGraphsShowWalks → IsGraph before → IsGraph after → (change : PairChange)
      → ((was is : PlainPolicy) (p : PlainPrefix) → pair_for was is p ≡ cases → ShowsWalks net was p before → ShowsWalks net is p after → IsPairChange net was is p change)
      → IsChangeFor net old new cases change
  change_for shows rules_before rules_after change given p prefix same =
      let old_case : cases.old ≡ case_for old p = ap (λ (c : CasePair). c.old) (sym same) in
      let new_case : cases.new ≡ case_for new p = ap (λ (c : CasePair). c.new) (sym same) in
      given old new p same
      (shows net old p before both.rules both.is_old prefix rules_before (subst (λ (of : PrefixCase). IsGraphFor net old of before) old_case of_old))
      (shows net new p after both.rules both.is_new prefix rules_after (subst (λ (of : PrefixCase). IsGraphFor net new of after) new_case of_new))

  -- why the pair isn't compared
  pub refused_for : (f : PairFault) (room : ℕ) → (f ≡ fault.TooManySteps → PassesRoom before after room) → IsRefusedAt net old new cases room (refusal_for cases f)
  refused_for fault.TooManySteps room many =
      record { before = before; after = after; is_before = of_old; is_after = of_new; passes = many refl; is_one = refl; is_other = refl }
  refused_for fault.NoMemory room many = tt

  -- the count of steps is that of the pair of cases
  pub steps_for : (used : ℕ) → HasPairSteps before after used → HasSteps net old new cases used
  steps_for used has = record { before = before; after = after; is_before = of_old; is_after = of_new; steps = has }
