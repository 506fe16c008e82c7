use Rattle.std.proofs.Common.{cond, eqb, length, ap, ◌∙◌}
use Rattle.bit_rows.specs.Bits.{has}
use Rattle.bit_rows.specs.Tables.{has_at}
use Rattle.bit_rows.proofs.Writing.{Lends, written_bits, written_table}
use Rattle.bit_rows.proofs.rows.Rows.put.Goals as goal

pub invariant_of-self : goal.invariant_of-self
invariant_of-self c =
    let rows = c.args.self.now in
    let lends : Lends c.self.inside rows c.args.row c.deref_mut.result.now = record { view = c.self.view_is; table = c.self.invariant; few = c.requires.row; same = c.deref_mut.ensures.value } in
    let same = c.copy_from_slice.ensures.after in
    written_table lends c.copy_from_slice.new.self (ap length same ∙ c.requires.words) (λ b le. ap (λ l. has l b) same ∙ c.requires.clear b le)

pub returns-clause-bits : goal.returns-clause-bits
returns-clause-bits c = λ other b lo.
    let rows = c.args.self.now in
    let lends : Lends c.self.inside rows c.args.row c.deref_mut.result.now = record { view = c.self.view_is; table = c.self.invariant; few = c.requires.row; same = c.deref_mut.ensures.value } in
    let same = c.copy_from_slice.ensures.after in
    written_bits lends c.copy_from_slice.new.self (ap length same ∙ c.requires.words) other b ∙ ap (λ l. cond (eqb other c.args.row) (has l b) (has_at rows other b)) same
