use Rattle.event_state.specs.States.{speakers, state}
use Rattle.event_core.proofs.Making.{makes_so, makes_then}
use Rattle.event_core.proofs.Steps.{cut_both}
use Rattle.event_core.proofs.changing.Changing.cut.Goals as goal

pub returns : goal.returns
returns c =
    let kept = c.args.self.now.world.now in
    makes_so (makes_then c.in_ok-make.ensures c.make-2.ensures) (cut_both (speakers kept) c.args.a c.args.b c.args.cut (state kept))
