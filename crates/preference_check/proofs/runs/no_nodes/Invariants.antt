use Rattle.std.proofs.Common.{◌≡◌, [], replicate}
use Rattle.preference_check.proofs.runs.no_nodes.Given as goal

abbrev pub invariant-loop : goal.invariant-loop
invariant-loop l = l.lists.items ≡ replicate l.counter []
