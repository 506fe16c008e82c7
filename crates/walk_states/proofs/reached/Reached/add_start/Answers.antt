use Rattle.std.proofs.Common.{ap, ◌∙◌, arith}
use Rattle.std.specs.Prelude.{slice_get}
use Rattle.path_automata.specs.States.{states_of}
use Rattle.walk_states.specs.Growth.{left_in, standing_in, standings_in, with_standing}
use Rattle.walk_states.proofs.Numbering.{known-extends, length-standings_in, slice_get-left_in, standing-after, standings_in-extends, standings_in-with_key}
use Rattle.walk_states.proofs.reached.Reached.add_start.Goals as goal

pub insert-requires-clause-few : goal.insert-requires-clause-few
insert-requires-clause-few c = omega (arith, c.requires.few, length-standings_in (states_of c.args.self.now.automata) c.args.self.now.found.keys.items)

pub returns-clause-ok : goal.returns-clause-ok
returns-clause-ok c =
    let old = states_of c.args.self.now.automata in
    let new = states_of c.step.new.self in
    let ks = c.args.self.now.found.keys.items in
    let at = c.args.at in
    let first = ap (slice_get old) c.start.ensures.first ∙ slice_get-left_in old 0 c.requires.begun in
    let state = c.in_ok-state.ensures.ok (left_in old 0) first in
    standings_in-with_key new ks c.insert.new.self.keys.items (at, c.in_ok-state.state) c.in_ok-state.ensures.apart c.in_ok-state.ensures.known
    (known-extends old new ks c.in_ok-state.ensures.extends c.args.self.now.known) c.in_ok-insert.ensures.keys
    ∙ ap (λ xs. with_standing xs (standing_in new (at, c.in_ok-state.state))) (standings_in-extends old new ks c.in_ok-state.ensures.extends c.args.self.now.known)
    ∙ ap (with_standing (standings_in old ks)) (standing-after old new at c.in_ok-state.state 0 state)
