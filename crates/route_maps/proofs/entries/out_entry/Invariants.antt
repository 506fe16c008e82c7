use Rattle.std.proofs.Common.{◌≡◌, drop}
use Rattle.std.specs.Prelude.{◌&&◌}
use Rattle.std.specs.List.{find}
use Rattle.config_base.specs.declared.config.Export.{Export}
use Rattle.config_base.specs.Lines.{same_tag}
use Rattle.route_maps.specs.Maps.{list_permits}
use Rattle.route_maps.proofs.entries.out_entry.Given as goal

abbrev pub invariant-loop-entry : goal.invariant-loop-entry
invariant-loop-entry l =
    find (λ (e : Export). list_permits l.maps e.class l.prefix && same_tag e.tag l.tag) l.entries
    ≡ find (λ (e : Export). list_permits l.maps e.class l.prefix && same_tag e.tag l.tag) (drop l.entry-index l.entries)
