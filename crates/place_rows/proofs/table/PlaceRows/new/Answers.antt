use Rattle.std.proofs.Common.{◌≡◌, ◌∙◌, ap, length}
use Rattle.place_rows.proofs.Placed.{placed, unplaced}
use Rattle.place_rows.proofs.table.PlaceRows.new.Goals as goal

pub returns-clause-rows : goal.returns-clause-rows
returns-clause-rows c = λ place.
    placed c.args.net.now c.args.first.now c.args.second.now c.args.both.now.pairs c.args.both.now.graph.steps c.note_nodes.new.routers.items c.note_steps.new.places.keys c.note_steps.new.rows.items
    (c.in_ok-note_nodes.ensures.size ∙ c.in_ok-routers.ensures.count ∙ ap length c.routers.ensures.routers) c.in_ok-note_nodes.ensures.noted c.in_ok-note_steps.ensures.noted place.router place.peer

pub returns-clause-others : goal.returns-clause-others
returns-clause-others c = λ place.
    unplaced c.args.net.now c.args.first.now c.args.second.now c.args.both.now.pairs c.args.both.now.graph.steps c.note_nodes.new.routers.items c.note_steps.new.places.keys c.note_steps.new.rows.items
    (c.in_ok-note_nodes.ensures.size ∙ c.in_ok-routers.ensures.count ∙ ap length c.routers.ensures.routers) c.in_ok-note_nodes.ensures.noted c.in_ok-note_steps.ensures.noted place.router place.peer
