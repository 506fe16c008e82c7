use Rattle.std.proofs.Common.{◌++◌, length}
use Rattle.std.specs.List.{AllByRecursion}
use Rattle.map_maker.specs.Earlier.{IsInOrder, HaveEntries, entries_in}
use Rattle.map_maker.proofs.earlier.take_short.Given as goal

abbrev pub invariant-loop-block : goal.invariant-loop-block
invariant-loop-block l = record {
  order : AllByRecursion IsInOrder l.blocks.items;
  entries : HaveEntries (entries_in l.blocks.items ++ l.entries.items) (entries_in l.initial.blocks.items ++ l.initial.entries.items);
}

abbrev pub decreases-loop-block : goal.decreases-loop-block
decreases-loop-block l = length l.blocks.items
