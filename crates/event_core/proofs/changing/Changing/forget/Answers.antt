use Rattle.std.proofs.Common.{None, ap}
use Rattle.event_state.specs.Changes.{with_heard, with_queue, with_queued}
use Rattle.event_state.specs.States.{state}
use Rattle.event_core.proofs.Making.{makes_so, makes_then}
use Rattle.event_core.proofs.changing.Changing.forget.Goals as goal

pub returns : goal.returns
returns c =
    let a = c.args.from in
    let b = c.args.to in
    makes_so (makes_then (makes_then c.in_ok-make.ensures c.in_ok-make-2.ensures) c.make-3.ensures)
    (ap (λ q. with_queued a b None (with_heard a b None (with_queue a b q (state c.args.self.now.world.now)))) c.new.ensures)
