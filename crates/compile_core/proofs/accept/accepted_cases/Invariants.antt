use Rattle.policy_base.specs.Policies.{policy_of}
use Rattle.case_core.specs.Automata.{AllFit}
use Rattle.compile_core.specs.Accepting.{AreGiven}
use Rattle.compile_core.proofs.accept.accepted_cases.Given as goal

abbrev pub invariant-loop-place : goal.invariant-loop-place
invariant-loop-place l = record {
  given : AreGiven l.net (policy_of l.policy) l.place l.room l.all.graphs.items l.all.prefs.items;
  kept : AllFit l.net (policy_of l.policy) l.automata;
}
