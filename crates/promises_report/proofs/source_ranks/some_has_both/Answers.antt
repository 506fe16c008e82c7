use Rattle.std.proofs.Common.{◌≡◌, ℕ, not, ◌&&◌, sym, ap, ◌∙◌}
use Rattle.bit_rows.specs.Bits.{has}
use Rattle.bit_rows.specs.Tables.{has_at, row_of}
use Rattle.promises_report.proofs.Marking.{both_asked}
use Rattle.promises_report.proofs.source_ranks.some_has_both.Goals as goal

pub returns : goal.returns
returns c =
    let rows = c.args.rows.now in
    let i = c.args.i in
    let j = c.args.j in
    let asked : (k : ℕ) → (has c.row.result.now k && (has c.row-2.result.now k && not (has c.row-3.result.now k))) ≡ (has_at rows i k && (has_at rows j k && not (has_at rows 0 k))) = λ k.
    ap (λ l. has l k && (has c.row-2.result.now k && not (has c.row-3.result.now k))) c.row.ensures.words
    ∙ ap (λ l. has (row_of rows i) k && (has l k && not (has c.row-3.result.now k))) c.row-2.ensures.words
    ∙ ap (λ l. has (row_of rows i) k && (has (row_of rows j) k && not (has l k))) c.row-3.ensures.words in
    both_asked rows i j c.outside_is_empty.result c.row.ensures.table c.requires.one c.requires.clear (λ h k. sym (asked k) ∙ c.outside_is_empty.ensures.0 h k)
    (λ each. c.outside_is_empty.ensures.1 (λ k. asked k ∙ each k))
