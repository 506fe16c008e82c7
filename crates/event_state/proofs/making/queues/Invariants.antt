use Rattle.std.proofs.Common.{◌≡◌, [], replicate}
use Rattle.event_state.proofs.making.queues.Given as goal

abbrev pub invariant-loop : goal.invariant-loop
invariant-loop l = l.all.items ≡ replicate l.counter []
