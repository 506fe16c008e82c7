use Rattle.std.proofs.Common.{◌≡◌, ◌+◌, length, map, drop}
use Rattle.net_base.specs.Steps.{each_from}
use Rattle.topology.specs.Rules.{joined}
use Rattle.topology.specs.Views.{raw_ends, texts}
use Rattle.json_values.proofs.ItemsRead.{with_front}
use Rattle.topology.proofs.links.join_all.Given as goal

abbrev pub invariant-loop-entry : goal.invariant-loop-entry
invariant-loop-entry l =
    (l.place ≡ l.entry-index + 1)
    × (length l.all.items ≡ l.entry-index)
    × (with_front l.all.items (each_from (joined (texts l.names.keys)) (l.entry-index + 1) (map raw_ends (drop l.entry-index l.raw))) ≡ each_from (joined (texts l.names.keys)) 1 (map raw_ends l.raw))
