use Rattle.std.proofs.Common.{◌≡◌, drop}
use Rattle.std.specs.Prelude.{◌&&◌, ◌||◌}
use Rattle.std.specs.List.{find}
use Rattle.net_base.specs.Network.{is_peer}
use Rattle.config_base.specs.declared.config.Import.{Import}
use Rattle.config_base.specs.Lines.{same_tag}
use Rattle.route_maps.specs.Maps.{list_permits}
use Rattle.route_maps.proofs.entries.in_entry.Given as goal

abbrev pub invariant-loop-entry : goal.invariant-loop-entry
invariant-loop-entry l =
    find (λ (e : Import). list_permits l.maps e.class l.prefix && (is_peer l.net l.from || same_tag e.tag l.tag)) l.entries
    ≡ find (λ (e : Import). list_permits l.maps e.class l.prefix && (is_peer l.net l.from || same_tag e.tag l.tag)) (drop l.entry-index l.entries)
