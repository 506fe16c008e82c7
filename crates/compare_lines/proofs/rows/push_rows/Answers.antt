use Rattle.std.proofs.Common.{◌≡◌, ◌++◌, [], List, ℕ, length, drop, sym, ap, ◌∙◌, arith, inl, inr, append-nil}
use Rattle.std.proofs.lemmas.Bool.{cases_lt}
use Rattle.compare_lines.specs.Rows.{row_lines}
use Rattle.compare_lines.proofs.RowsTold.{row_none, row_over}
use Rattle.compare_lines.proofs.rows.push_rows.Goals as goal

pub returns : goal.returns
returns c =
    let net = c.args.net.now in
    let rows = c.args.rows.now in
    let walks = c.args.walks.now in
    let i = c.loop-i.i in
    let done : row_lines net (drop i rows) (drop i walks) ≡ [] = elim (cases_lt i (length rows)) [
      | inl low ↦ row_none net rows walks i (omega (arith, c.min-i-end.ensures, c.loop-i-test.false, low))
      | inr past ↦ row_over net rows walks i past
    ] in
    sym (append-nil c.loop-i.text.items) ∙ ap (λ (t : List ℕ). c.loop-i.text.items ++ t) (sym done) ∙ c.loop-i.invariant
