-- Tables of one size.
use Rattle.std.proofs.Common.{◌≡◌, ap, ◌∙◌}
use Rattle.bit_rows.specs.Tables.{IsSameSize, PlainRows}

pub size_then : {one mid other : PlainRows} → IsSameSize one mid → IsSameSize mid other → IsSameSize one other
size_then s t = record { count = s.count ∙ t.count; bits = s.bits ∙ t.bits; width = s.width ∙ t.width }

-- where a table is one that has the size
pub size_where : {one mid other : PlainRows} → one ≡ mid → IsSameSize mid other → IsSameSize one other
size_where is s = record {
  count = ap (λ (z : PlainRows). z.count) is ∙ s.count;
  bits = ap (λ (z : PlainRows). z.bits) is ∙ s.bits;
  width = ap (λ (z : PlainRows). z.width) is ∙ s.width;
}
