use Rattle.event_core.proofs.Making.{Made}
use Rattle.event_core.proofs.Opened.{opened}
use Rattle.event_core.proofs.changing.Changing.choose_all.Given as goal

abbrev pub invariant-loop-number : goal.invariant-loop-number
invariant-loop-number l = Made (λ net w. opened net l.number) l.fn.self l.self
