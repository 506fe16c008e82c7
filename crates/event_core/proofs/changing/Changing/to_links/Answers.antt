use Rattle.std.proofs.Common.{◌≡◌, ◌<◌, Some, length, take, sym, ap, ◌∙◌, arith}
use Rattle.std.specs.Prelude.{slice_get}
use Rattle.std.proofs.lemmas.Option.{slice_get-get_or}
use Rattle.net_base.specs.Locations.{neighbours}
use Rattle.net_base.proofs.Neighbours.{neighbour_linked}
use Rattle.event_state.specs.States.{speakers, state}
use Rattle.event_core.proofs.Linkwise.{to_all, to_next, to_none, to_some}
use Rattle.event_core.proofs.Loops.{all_neighbours, neighbour_more}
use Rattle.event_core.proofs.Making.{made_so, makes_nothing, makes_then}
use Rattle.event_core.proofs.changing.Changing.to_links.Goals as goal

pub loop-place-init : goal.loop-place-init
loop-place-init c =
    let kept = c.args.self.now.world.now in
    makes_nothing c.args.self.now (to_none c.args.deed c.args.at (speakers kept) (state kept))

pub to_link-requires : goal.to_link-requires
to_link-requires c =
    let w = c.args.self.now.world.now in
    let long : length c.neighbours-place-end.result.now ≡ length (neighbours w.net.now c.args.at) = ap length c.neighbours-place-end.ensures in
    let near : length (neighbours w.net.now c.args.at) ≡ length c.neighbours.result.now = ap (λ s. length (neighbours s.0 c.args.at))
    (sym c.loop-place.invariant.follows.setting) ∙ sym (ap length c.neighbours.ensures) in
    let less : c.loop-place.place < length c.neighbours.result.now = omega (arith, long, near, c.loop-place-test.true) in
    neighbour_linked c.loop-place.self.world.now.net.now c.args.at c.loop-place.place c.index-neighbours-place.result
    (ap (λ xs. slice_get xs c.loop-place.place) (sym c.neighbours.ensures)
    ∙ slice_get-get_or c.neighbours.result.now c.loop-place.place c.index-neighbours-place.result less
    ∙ ap Some (sym c.index-neighbours-place.is))

pub loop-place-preserved : goal.loop-place-preserved
loop-place-preserved c =
    let kept = c.args.self.now.world.now in
    let inv = c.loop-place.invariant in
    let more = neighbour_more kept c.args.at c.neighbours-place-end.ensures c.loop-place.self.world.now inv.follows.setting
    c.neighbours.ensures c.loop-place-test.true c.index-neighbours-place.is in
    made_so (makes_then inv c.in_ok-to_link.ensures)
    (to_next kept c.args.at c.args.deed (take c.loop-place.place (neighbours kept.net.now c.args.at)) c.index-neighbours-place.result (state kept)
    ∙ ap (λ us. to_some c.args.deed c.args.at us (speakers kept) (state kept)) (sym more))

pub returns : goal.returns
returns c =
    let kept = c.args.self.now.world.now in
    made_so c.loop-place.invariant
    (ap (λ us. to_some c.args.deed c.args.at us (speakers kept) (state kept)) (all_neighbours kept c.args.at c.neighbours-place-end.ensures c.loop-place-test.false)
    ∙ to_all kept c.args.at c.known_net.ensures c.args.deed)
