use Rattle.std.proofs.Common.{◌≡◌, ◌+◌, map, drop}
use Rattle.net_base.specs.Steps.{each_from}
use Rattle.topology.specs.Rules.{site_of}
use Rattle.topology.specs.Views.{named_entry}
use Rattle.json_values.proofs.ItemsRead.{with_front}
use Rattle.topology.proofs.sites.sites.Given as goal

abbrev pub invariant-loop-entry : goal.invariant-loop-entry
invariant-loop-entry l =
    with_front l.all.items (each_from (λ _. site_of l.kind) (l.entry-index + 1) (map named_entry (drop l.entry-index l.entries)))
    ≡ each_from (λ _. site_of l.kind) 1 (map named_entry l.entries)
