use Rattle.std.proofs.Common.{◌≡◌, ◌+◌, ◌++◌, ◌<◌, None, Some, length, vec_len, replicate, refl, sym, ap, ◌∙◌, arith}
use Rattle.walk_states.specs.Table.{entry}
use Rattle.walk_states.proofs.Lookups.{Table, entry-resized, entry-set, filled-up, table-alike, table-made}
use Rattle.walk_states.proofs.found.Found.row.Goals as goal

pub invariant_of-self : goal.invariant_of-self
invariant_of-self c =
    let s = c.args.self.now in
    let t : Table s.locations c.make_room.new.rows.items s.numbers.items s.keys.items =
    table-alike s.locations s.rows.items s.numbers.items c.make_room.new.rows.items s.numbers.items s.keys.items (record { inside = s.inside; apart = s.apart; right = s.right; found = s.found })
    c.make_room.ensures.rows (omega arith, λ place. refl) in
    record { within = s.within; inside = t.inside; apart = t.apart; right = t.right; found = t.found }

pub invariant_of-self-in-Break-branch-2 : goal.invariant_of-self-in-Break-branch-2
invariant_of-self-in-Break-branch-2 c =
    let s = c.args.self.now in
    let t : Table s.locations c.make_room.new.rows.items c.resize.new.self.items s.keys.items =
    table-alike s.locations s.rows.items s.numbers.items c.make_room.new.rows.items c.resize.new.self.items s.keys.items
    (record { inside = s.inside; apart = s.apart; right = s.right; found = s.found }) c.make_room.ensures.rows
    (entry-resized _ _ _ s.numbers.items c.resize.new.self.items c.resize.ensures.items (omega (arith, c.len-row.ensures, s.numbers.ok.0))) in
    record { within = s.within; inside = t.inside; apart = t.apart; right = t.right; found = t.found }

pub invariant_of-self-2 : goal.invariant_of-self-2
invariant_of-self-2 c =
    let s = c.args.self.now in
    let t : Table s.locations c.make_room.new.rows.items s.numbers.items s.keys.items =
    table-alike s.locations s.rows.items s.numbers.items c.make_room.new.rows.items s.numbers.items s.keys.items (record { inside = s.inside; apart = s.apart; right = s.right; found = s.found })
    c.make_room.ensures.rows (omega arith, λ place. refl) in
    let room : c.number-2.result < length c.make_room.new.rows.items =
    omega (arith, c.number.ensures, c.number-2.ensures, c.in_ok-make_room.ensures.room, c.make_room.new.rows.ok.0) in
    let new : entry c.make_room.new.rows.items c.number-2.result ≡ None =
    c.make_room.ensures.rows c.number-2.result ∙ ap (entry s.rows.items) c.number-2.ensures
    ∙ ap (λ l. entry l c.args.state) (sym c.deref.ensures.value) ∙ sym c.row_of.ensures ∙ c.in_default.is in
    let begin : c.len-row.result ≡ length s.numbers.items = omega (arith, c.len-row.ensures, s.numbers.ok.0) in
    let grown : c.resize.new.self.items ≡ s.numbers.items ++ replicate s.locations None =
    filled-up s.locations (c.len-row.result + s.locations) (vec_len s.numbers) s.numbers.items c.resize.new.self.items c.in_ok-resize.ensures.items s.numbers.ok.0 (omega (arith, c.len-row.ensures)) in
    let made = table-made s.locations c.make_room.new.rows.items s.numbers.items c.resize.new.self.items s.keys.items c.number-2.result c.len-row.result t room new begin grown in
    record { within = s.within; inside = made.inside; apart = made.apart; right = made.right; found = made.found }

pub returns-clause-row : goal.returns-clause-row
returns-clause-row c =
    let room : c.number-2.result < length c.make_room.new.rows.items =
    omega (arith, c.number.ensures, c.number-2.ensures, c.in_ok-make_room.ensures.room, c.make_room.new.rows.ok.0) in
    ap (entry _) (sym c.number-2.ensures) ∙ entry-set c.make_room.new.rows.items c.number-2.result (Some c.len-row.result) room
