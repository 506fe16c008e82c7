use Rattle.std.specs.Prelude.{nat_lt}
use Rattle.event_base.specs.World.{tell}
use Rattle.event_core.proofs.Making.{Made}
use Rattle.event_core.proofs.changing.Changing.tell_all.Given as goal

abbrev pub invariant-loop-number : goal.invariant-loop-number
invariant-loop-number l = Made (λ net. tell net (λ a b. nat_lt a l.number)) l.fn.self l.self
