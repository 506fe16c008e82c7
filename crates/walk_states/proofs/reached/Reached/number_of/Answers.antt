use Rattle.std.proofs.Common.{◌≤◌, length, sym, subst, arith, rules}
use Rattle.path_automata.specs.States.{states_of}
use Rattle.walk_states.specs.Growth.{standing_in, standings_in, with_standing}
use Rattle.walk_states.proofs.Lookups.{keys-distinct}
use Rattle.walk_states.proofs.Numbering.{length-standings_in, standings_in-with_key, known-with_key, place-key}
use Rattle.walk_states.proofs.reached.Reached.number_of.Goals as goal

pub returns-clause-ok : goal.returns-clause-ok
returns-clause-ok c =
    standings_in-with_key (states_of c.args.self.now.automata) c.args.self.now.found.keys.items c.insert.new.self.keys.items (c.args.at, c.args.state)
    c.args.self.now.apart c.requires.known c.args.self.now.known c.in_ok-number.ensures.keys

pub returns-clause-number : goal.returns-clause-number
returns-clause-number c =
    let ss = states_of c.args.self.now.automata in
    let f = c.insert.new.self in
    let known = known-with_key ss c.args.self.now.found.keys.items c.insert.new.self.keys.items (c.args.at, c.args.state) c.requires.known c.args.self.now.known c.in_ok-number.ensures.keys in
    sym (place-key ss f.keys.items c.in_ok-number.number (c.args.at, c.args.state) c.args.self.now.apart known (keys-distinct f.rows.items f.numbers.items f.keys.items f.found)
    c.in_ok-number.ensures.number)

pub insert-requires-clause-few : goal.insert-requires-clause-few
insert-requires-clause-few c = omega (arith, c.requires.few, length-standings_in (states_of c.args.self.now.automata) c.args.self.now.found.keys.items)

pub returns-clause-few : goal.returns-clause-few
returns-clause-few c =
    let ss = states_of c.args.self.now.automata in
    let room : length (with_standing (standings_in ss c.args.self.now.found.keys.items) (standing_in ss (c.args.at, c.args.state))) ≤ 4096 = search rules in
    subst (λ l. length l ≤ 4096)
    (sym (standings_in-with_key ss c.args.self.now.found.keys.items c.insert.new.self.keys.items (c.args.at, c.args.state) c.args.self.now.apart
    c.requires.known c.args.self.now.known c.in_ok-number.ensures.keys))
    room
