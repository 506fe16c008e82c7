use Rattle.std.proofs.Common.{◌<◌, ℕ, eqb, arith, sym, ap, ◌∙◌, inl, inr}
use Rattle.std.proofs.lemmas.Bool.{cases_eq, cond-false, cond-true, eq-eqb, ne_eqb}
use Rattle.bit_rows.specs.Bits.{has}
use Rattle.bit_rows.specs.Tables.{has_at}
use Rattle.state_simulation.proofs.Sizes.{size_then}
use Rattle.state_simulation.proofs.copies.put_rows.Goals as goal

pub put-requires-clause-words : goal.put-requires-clause-words
put-requires-clause-words c = omega (arith, c.row.ensures.width, c.requires.same.width, c.loop-n.invariant.size.width)

pub put-requires-clause-clear : goal.put-requires-clause-clear
put-requires-clause-clear c = λ b past.
    let same = c.requires.same in
    ap (λ words. has words b) c.row.ensures.words
    ∙ c.row.ensures.table.clear c.loop-n.n b (omega (arith, c.loop-n-test.true, same.count, c.requires.square.count)) (omega (arith, past, same.bits, c.loop-n.invariant.size.bits))

pub loop-n-preserved : goal.loop-n-preserved
loop-n-preserved c =
    let inv = c.loop-n.invariant in
    let rows = c.args.rows.now in
    let n : ℕ = c.loop-n.n in
    let put = c.put.ensures in
    record {
      size = size_then put.size inv.size;
      bits = λ r b lr.
          let inside : r < c.loop-n.into.count = omega (arith, lr, c.loop-n-test.true, inv.size.count, c.requires.square.count) in
          put.bits r b inside ∙ elim (cases_eq r n) [
            | inl e ↦ cond-true (eqb r n) _ _ (eq-eqb r n e) ∙ ap (λ words. has words b) c.row.ensures.words ∙ ap (λ z. has_at rows z b) (sym e)
            | inr ne ↦ cond-false (eqb r n) _ _ (ne_eqb r n ne) ∙ inv.bits r b (omega (arith, lr, ne))
          ];
    }
