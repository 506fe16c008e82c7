use Rattle.std.proofs.Common.{◌*◌, ℕ, List, length, arith, ap, sym, ◌∙◌}
use Rattle.std.specs.List.{count_by, range_with_len}
use Rattle.bit_rows.specs.Bits.{has}
use Rattle.bit_rows.specs.Tables.{has_at}
use Rattle.list_law.proofs.Counts.{count_to}
use Rattle.bit_rows.proofs.rows.Rows.count.Goals as goal

pub count_bits-requires : goal.count_bits-requires
count_bits-requires c = let table = c.row.ensures.table in omega (arith, c.row.ensures.width, table.tight, table.few)

pub returns : goal.returns
returns c =
    let r = c.args.self.now in
    let table = c.row.ensures.table in
    c.count_bits.ensures ∙ ap (λ (l : List ℕ). count_by (has l) (range_with_len 0 (64 * length l))) c.row.ensures.words
    ∙ ap (λ k. count_by (has_at r c.args.row) (range_with_len 0 (64 * k))) (ap length (sym c.row.ensures.words) ∙ c.row.ensures.width)
    ∙ count_to (has_at r c.args.row) r.bits (64 * r.width) table.room (λ k le. table.clear c.args.row k c.requires le)
