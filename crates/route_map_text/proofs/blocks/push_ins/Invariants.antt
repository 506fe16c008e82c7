use Rattle.std.proofs.Common.{◌≡◌, ◌+◌, ◌*◌, ◌++◌, map, take}
use Rattle.std.specs.List.{flat_map}
use Rattle.config_text.specs.ConfigLines.{import_of}
use Rattle.route_map_text.specs.MapsLines.{fed, numbered}
use Rattle.route_map_text.proofs.blocks.push_ins.Given as goal

abbrev pub invariant-loop-rule : goal.invariant-loop-rule
invariant-loop-rule l = record {
  number : l.number ≡ 10 + 10 * l.rule-index;
  text : l.text.items ≡ l.initial.text.items ++ flat_map fed (numbered 10 (map (import_of l.peer) (take l.rule-index l.rules)));
}
