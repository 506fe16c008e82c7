use Rattle.std.proofs.Common.{◌≡◌, inl, inr, sym, ap, ◌∙◌, arith}
use Rattle.std.specs.Prelude.{is_some}
use Rattle.std.specs.List.{list_any}
use Rattle.std.proofs.lemmas.Bool.{not-true}
use Rattle.path_automata.specs.States.{states_of}
use Rattle.walk_states.specs.Table.{Key, same_key}
use Rattle.walk_states.proofs.Lookups.{key-test}
use Rattle.walk_states.proofs.Numbering.{room-full, room-left}
use Rattle.walk_states.proofs.reached.Reached.has_room.Goals as goal

pub returns-then-len-lt-MOST_NODES-clause-room : goal.returns-then-len-lt-MOST_NODES-clause-room
returns-then-len-lt-MOST_NODES-clause-room c = λ _.
    room-left (states_of c.args.self.now.automata) c.args.self.now.found.keys.items (c.args.at, c.args.state) 4096 c.args.self.now.apart c.requires.known c.args.self.now.known c.requires.few
    (inl (omega (arith, c.len.ensures, c.if-len-lt-MOST_NODES.true)))

pub returns-else-len-lt-MOST_NODES : goal.returns-else-len-lt-MOST_NODES
returns-else-len-lt-MOST_NODES c =
    let self = c.args.self.now in
    let f = self.found in
    let key : Key = (c.args.at, c.args.state) in
    let among : list_any (same_key key) f.keys.items ≡ c.is_some.result =
    sym (key-test f.locations f.rows.items f.numbers.items f.keys.items (record { inside = f.inside; apart = f.apart; right = f.right; found = f.found }) key c.requires.within)
    ∙ ap is_some (sym c.number.ensures) ∙ sym c.is_some.ensures in
    record {
      room = λ yes. room-left (states_of self.automata) f.keys.items key 4096 self.apart c.requires.known self.known c.requires.few (inr (among ∙ yes));
      full = λ no.
          room-full (states_of self.automata) f.keys.items key 4096 self.apart c.requires.known self.known
          (omega (arith, c.len.ensures, c.if-len-lt-MOST_NODES.false)) (among ∙ not-true c.is_some.result no);
    }
