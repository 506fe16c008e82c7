use Rattle.std.proofs.Common.{◌≡◌, ◌++◌}
use Rattle.std.specs.Prelude.{replicate}
use Rattle.event_rounds.proofs.round.push_waiting.Given as goal

abbrev pub invariant-loop : goal.invariant-loop
invariant-loop l = l.round.items ≡ l.initial.round.items ++ replicate l.counter (l.from, l.to)
