use Rattle.std.proofs.Common.{◌≡◌, ◌+◌, ◌<◌, Some, length, sym, ap, ◌∙◌, arith}
use Rattle.walk_states.specs.Table.{entry}
use Rattle.walk_states.proofs.Lookups.{entry-read, number-of_row}
use Rattle.walk_states.proofs.found.Found.number.Goals as goal

pub overflow_add-row : goal.overflow_add-row
overflow_add-row c =
    let s = c.args.self.now in
    let known : entry s.rows.items c.args.state ≡ Some c.in_ok-row.row = ap (λ l. entry l c.args.state) (sym c.deref.ensures.value) ∙ sym c.in_ok-row.ensures in
    record { fits = omega (arith, s.inside c.args.state c.in_ok-row.row known, c.requires.within, c.number.ensures, s.numbers.ok.0, s.numbers.ok.1, s.numbers.small) }

pub index-requires : goal.index-requires
index-requires c =
    let s = c.args.self.now in
    let known : entry s.rows.items c.args.state ≡ Some c.in_ok-row.row = ap (λ l. entry l c.args.state) (sym c.deref.ensures.value) ∙ sym c.in_ok-row.ensures in
    omega (arith, s.inside c.args.state c.in_ok-row.row known, c.requires.within, c.number.ensures, s.numbers.ok.0)

pub returns : goal.returns
returns c =
    let s = c.args.self.now in
    let known : entry s.rows.items c.args.state ≡ Some c.in_ok-row.row = ap (λ l. entry l c.args.state) (sym c.deref.ensures.value) ∙ sym c.in_ok-row.ensures in
    let place : c.in_ok-row.row + c.number.result < length s.numbers.items = omega (arith, s.inside c.args.state c.in_ok-row.row known, c.requires.within, c.number.ensures) in
    sym (number-of_row s.rows.items s.numbers.items (c.args.at, c.args.state) (Some c.in_ok-row.row) known
    ∙ ap (λ n. entry s.numbers.items (c.in_ok-row.row + n)) (sym c.number.ensures)
    ∙ entry-read s.numbers.items (c.in_ok-row.row + c.number.result) c.index.result.now place c.index.ensures)
