use Rattle.std.proofs.Common.{◌≡◌, [], map, take, drop}
use Rattle.topology.specs.declared.fault.TopoFault.TheVariants.{Twice}
use Rattle.topology.specs.Rules.{all_unlike, names_of, same_name}
use Rattle.topology.specs.Views.{named_entry, texts}
use Rattle.topology.proofs.sites.names.Given as goal

abbrev pub invariant-loop-entry : goal.invariant-loop-entry
invariant-loop-entry l =
    (texts l.names.keys ≡ names_of (map named_entry (take l.entry-index l.entries)))
    × (all_unlike same_name (λ _ _ later. Twice later.name) (map named_entry (take l.entry-index l.entries)) (map named_entry (drop l.entry-index l.entries))
    ≡ all_unlike same_name (λ _ _ later. Twice later.name) [] (map named_entry l.entries))
