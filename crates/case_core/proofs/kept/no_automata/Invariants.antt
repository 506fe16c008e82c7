use Rattle.std.proofs.Common.{◌≡◌, None, replicate}
use Rattle.case_core.proofs.kept.no_automata.Given as goal

abbrev pub invariant-loop : goal.invariant-loop
invariant-loop l = l.all.items ≡ replicate l.counter None
