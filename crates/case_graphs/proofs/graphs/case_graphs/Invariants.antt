use Rattle.indexmap.specs.IndexMap.{get}
use Rattle.policy_base.specs.Policies.{policy_of}
use Rattle.compare_base.specs.Same.{same_case}
use Rattle.case_core.specs.Automata.{AllFit}
use Rattle.case_graphs.proofs.KeptGraphs.{AreGraphsTo}
use Rattle.case_graphs.proofs.Within.{AreGone}
use Rattle.case_graphs.proofs.graphs.case_graphs.Given as goal

abbrev pub invariant-loop-place : goal.invariant-loop-place
invariant-loop-place l = record {
  gone : AreGone l.net (policy_of l.policy) l.place l.room;
  kept : AllFit l.net (policy_of l.policy) l.kept;
  graphs : AreGraphsTo l.net (policy_of l.policy) l.place (get same_case l.graphs);
}
