use Rattle.case_core.specs.Firsts.{AreFirsts}
use Rattle.case_core.proofs.firsts.first_nodes.Given as goal

abbrev pub invariant-loop-i : goal.invariant-loop-i
invariant-loop-i l = AreFirsts l.routers l.graph l.i l.table.items
