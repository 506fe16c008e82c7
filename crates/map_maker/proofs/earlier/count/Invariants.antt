use Rattle.std.proofs.Common.{◌≡◌, ◌≤◌, ◌+◌, drop, min}
use Rattle.std.specs.Prelude.{count_by}
use Rattle.std.specs.List.{AllByRecursion}
use Rattle.map_maker.specs.Keys.{in_some}
use Rattle.map_maker.specs.Earlier.{top, IsInOrder, entries_in}
use Rattle.map_maker.specs.declared.earlier.Entry.{Entry}
use Rattle.map_maker.proofs.earlier.count.Given as goal

abbrev pub invariant-loop-block : goal.invariant-loop-block
invariant-loop-block l = record {
  few : l.total ≤ top;
  rest : min (count_by (λ (e : Entry). in_some l.spans e.key) (entries_in l.blocks)) top
      ≡ min (l.total + count_by (λ (e : Entry). in_some l.spans e.key) (entries_in (drop l.block-index l.blocks))) top;
  order : AllByRecursion IsInOrder (drop l.block-index l.blocks);
}
