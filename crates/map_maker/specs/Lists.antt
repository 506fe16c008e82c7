-- Earlier patterns and their blocks.
use Rattle.std.specs.List.{AllByRecursion}
use Rattle.map_maker.specs.Earlier.{IsInOrder, HaveEntries, entries_in, entries_from}
use Rattle.map_maker.specs.declared.lists.Earlier.{Earlier}

-- the blocks have the patterns, each with its place, and are in order
pub record IsIndexed (e : Earlier) : Type 0 where
  pub entries : HaveEntries (entries_in e.blocks) (entries_from 0 e.patterns)
  pub order : AllByRecursion IsInOrder e.blocks
