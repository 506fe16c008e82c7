use Rattle.std.proofs.Common.{take, refl, sym, ap, ◌∙◌}
use Rattle.net_base.specs.Locations.{neighbours}
use Rattle.event_base.specs.World.{each_again}
use Rattle.event_state.specs.States.{speakers, state}
use Rattle.event_core.proofs.Loops.{all_neighbours, neighbour_more}
use Rattle.event_core.proofs.Making.{made_so, makes_nothing, makes_then}
use Rattle.event_core.proofs.Steps.{each_more}
use Rattle.event_core.proofs.changing.Changing.choose_around.Goals as goal

pub loop-place-init : goal.loop-place-init
loop-place-init c = makes_nothing c.args.self.now refl

pub loop-place-preserved : goal.loop-place-preserved
loop-place-preserved c =
    let kept = c.args.self.now.world.now in
    let inv = c.loop-place.invariant in
    let more = neighbour_more kept c.args.at c.neighbours-place-end.ensures c.loop-place.self.world.now inv.follows.setting
    c.neighbours.ensures c.loop-place-test.true c.index-neighbours-place.is in
    made_so (makes_then inv c.in_ok-choose_again.ensures)
    (sym (each_more (speakers kept) (take c.loop-place.place (neighbours kept.net.now c.args.at)) c.index-neighbours-place.result (state kept)) ∙ ap (λ us. each_again (speakers kept) us (state kept)) (sym more))

pub returns : goal.returns
returns c =
    let kept = c.args.self.now.world.now in
    made_so c.loop-place.invariant
    (ap (λ us. each_again (speakers kept) us (state kept)) (all_neighbours kept c.args.at c.neighbours-place-end.ensures c.loop-place-test.false))
