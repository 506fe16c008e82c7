use Rattle.std.proofs.Common.{◌≡◌, ◌+◌, ◌<◌, length, arith, ◌∙◌, ap}
use Rattle.std.specs.Prelude.{slice_index_or}
use Rattle.std.proofs.lemmas.Bool.{ltb-true}
use Rattle.net_base.specs.Locations.{neighbours}
use Rattle.event_state.proofs.Neighbouring.{made_at, made_length}
use Rattle.event_state.proofs.world.World.neighbours.Goals as goal

pub index-requires : goal.index-requires
index-requires c =
    let w = c.args.self.now in
    let n = length w.net.now.routers + length w.net.now.peers in
    let size : length w.near.items ≡ n = made_length w.near.items (neighbours w.net.now) n w.of_near in
    let less : c.args.at < n = ltb-true c.args.at n c.requires in
    omega (arith, size, less, w.near.ok.0, c.number.ensures)

pub returns : goal.returns
returns c =
    let w = c.args.self.now in
    let n = length w.net.now.routers + length w.net.now.peers in
    c.as_slice.ensures
    ∙ made_at w.near.items (neighbours w.net.now) n c.args.at c.index.result.now w.of_near (ltb-true c.args.at n c.requires)
    (c.index.ensures ∙ ap (λ i. slice_index_or w.near.items i c.index.result.now) c.number.ensures)
