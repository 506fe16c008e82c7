use Rattle.std.proofs.Common.{Some, ap, sym, ◌∙◌}
use Rattle.std.specs.Prelude.{option_map}
use Rattle.path_automata.specs.States.{states_of}
use Rattle.walk_states.specs.Built.{node_of}
use Rattle.path_exprs.specs.Standings.{plan_of}
use Rattle.walk_states.proofs.Numbering.{slice_get-standings_in}
use Rattle.walk_states.proofs.reached.Reached.node.Goals as goal

pub returns : goal.returns
returns c = λ es.
    let at = c.standing-at.result.0 in
    ap (option_map (node_of c.args.net.now (plan_of es c.args.from.now c.args.case.now)))
    (slice_get-standings_in (states_of c.args.self.now.automata) c.args.self.now.found.keys.items c.args.number c.standing-at.result c.standing-at.ensures)
    ∙ sym (λ i. Some (record { loc = at; listener = c.is_listener.ensures i; rank = c.rank.ensures es i }))
