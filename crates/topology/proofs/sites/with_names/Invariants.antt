use Rattle.std.proofs.Common.{◌≡◌, ◌+◌, length, map, drop}
use Rattle.net_base.specs.Steps.{each_from}
use Rattle.topology.specs.Rules.{named}
use Rattle.topology.specs.Views.{raw_entry, named_entry}
use Rattle.json_values.proofs.ItemsRead.{with_front}
use Rattle.topology.proofs.sites.with_names.Given as goal

abbrev pub invariant-loop-entry : goal.invariant-loop-entry
invariant-loop-entry l =
    (l.place ≡ l.entry-index + 1)
    × (length l.all.items ≡ l.entry-index)
    × (with_front (map named_entry l.all.items) (each_from (named l.kind) (l.entry-index + 1) (map raw_entry (drop l.entry-index l.raw))) ≡ each_from (named l.kind) 1 (map raw_entry l.raw))
