use Rattle.std.proofs.Common.{◌≡◌, ◌≢◌, Bool, true, false, ◌&&◌, ◌||◌, cond, eqb, refl, sym, ap, ◌∙◌, arith}
use Rattle.std.proofs.lemmas.Bool.{ne_eqb}
use Rattle.std.proofs.Math.Bool.{or-false}
use Rattle.bit_rows.specs.Bits.{has}
use Rattle.bit_rows.specs.Tables.{has_at}
use Rattle.bit_rows.proofs.Writing.{Lends, changed_bits, lent_clear, lent_row, lent_wide, written_table}
use Rattle.bit_rows.proofs.rows.Rows.set.Goals as goal

pub invariant_of-self : goal.invariant_of-self
invariant_of-self c =
    let rows = c.args.self.now in
    let lends : Lends c.self.inside rows c.args.row c.deref_mut.result.now = record { view = c.self.view_is; table = c.self.invariant; few = c.requires.row; same = c.deref_mut.ensures.value } in
    written_table lends c.set_bit.new.row (c.set_bit.ensures.len ∙ lent_wide lends) (λ b le.
    let apart : b ≢ c.args.bit = λ e. omega (arith, e, le, c.requires.bit) in
    c.set_bit.ensures.bits b ∙ ap (λ l. has l b || eqb b c.args.bit) (lent_row lends) ∙ ap (λ z. z || eqb b c.args.bit) (lent_clear lends b le) ∙ ne_eqb _ _ apart)

pub returns-clause-bits : goal.returns-clause-bits
returns-clause-bits c = λ other b lo.
    let rows = c.args.self.now in
    let lends : Lends c.self.inside rows c.args.row c.deref_mut.result.now = record { view = c.self.view_is; table = c.self.invariant; few = c.requires.row; same = c.deref_mut.ensures.value } in
    changed_bits lends c.set_bit.new.row (c.set_bit.ensures.len ∙ lent_wide lends) (λ z. z || eqb b c.args.bit) other b
    (c.set_bit.ensures.bits b ∙ ap (λ l. has l b || eqb b c.args.bit) (lent_row lends))
    ∙ added (eqb other c.args.row) (has_at rows other b) (eqb b c.args.bit)
  where
    added : (here old more : Bool) → cond here (old || more) old ≡ (old || (here && more))
    added true old more = refl
    added false old more = sym (or-false old)
