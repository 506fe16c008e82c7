use Rattle.std.proofs.Common.{◌≡◌, ◌<◌, List}
use Rattle.net_base.specs.declared.numbers.Tag.{Tag}
use Rattle.free_tags.specs.Free.{HaveSameTags, free_count}
use Rattle.free_tags.proofs.free.value_from.Given as goal

abbrev pub invariant-loop-value : goal.invariant-loop-value
invariant-loop-value l = record {
  fewer : l.count < l.k;
  right : (tags : List Tag) → HaveSameTags l.taken.keys tags → free_count tags l.asn l.fn.from.value ≡ l.fn.from.count → free_count tags l.asn l.value ≡ l.count;
}
