use Rattle.std.proofs.Common.{◌≡◌, [], map, take, drop}
use Rattle.topology.specs.Rules.{all_unlike, number, same_number, shared}
use Rattle.topology.specs.Views.{named_entry}
use Rattle.topology.proofs.sites.unshared.Given as goal

abbrev pub invariant-loop-entry : goal.invariant-loop-entry
invariant-loop-entry l =
    (l.seen.keys ≡ map (number l.which) (map named_entry (take l.entry-index l.entries)))
    × (all_unlike (same_number l.which) (λ _. shared l.which) (map named_entry (take l.entry-index l.entries)) (map named_entry (drop l.entry-index l.entries))
    ≡ all_unlike (same_number l.which) (λ _. shared l.which) [] (map named_entry l.entries))
