use Rattle.std.proofs.Common.{◌≡◌, Bool, true, false, not, ◌&&◌, ◌||◌, cond, eqb, refl, sym, ap, ◌∙◌}
use Rattle.std.proofs.Math.Bool.{and-true}
use Rattle.bit_rows.specs.Bits.{has}
use Rattle.bit_rows.specs.Tables.{has_at}
use Rattle.bit_rows.proofs.Writing.{Lends, changed_bits, lent_clear, lent_row, lent_wide, written_table}
use Rattle.bit_rows.proofs.rows.Rows.keep.Goals as goal

pub invariant_of-self : goal.invariant_of-self
invariant_of-self c =
    let rows = c.args.self.now in
    let lends : Lends c.self.inside rows c.args.row c.deref_mut.result.now = record { view = c.self.view_is; table = c.self.invariant; few = c.requires.row; same = c.deref_mut.ensures.value } in
    written_table lends c.keep_row.new.row (c.keep_row.ensures.len ∙ lent_wide lends) (λ b le.
    c.keep_row.ensures.bits b ∙ ap (λ l. has l b && has c.args.mask.now b) (lent_row lends) ∙ ap (λ z. z && has c.args.mask.now b) (lent_clear lends b le))

pub returns-clause-bits : goal.returns-clause-bits
returns-clause-bits c = λ other b lo.
    let rows = c.args.self.now in
    let lends : Lends c.self.inside rows c.args.row c.deref_mut.result.now = record { view = c.self.view_is; table = c.self.invariant; few = c.requires.row; same = c.deref_mut.ensures.value } in
    changed_bits lends c.keep_row.new.row (c.keep_row.ensures.len ∙ lent_wide lends) (λ z. z && has c.args.mask.now b) other b
    (c.keep_row.ensures.bits b ∙ ap (λ l. has l b && has c.args.mask.now b) (lent_row lends))
    ∙ kept (eqb other c.args.row) (has_at rows other b) (has c.args.mask.now b)
  where
    kept : (here old mask : Bool) → cond here (old && mask) old ≡ (old && (not here || mask))
    kept true old mask = refl
    kept false old mask = sym (and-true old)
