use Rattle.std.proofs.Common.{◌≡◌, ◌+◌, ◌*◌, ◌++◌, map, take}
use Rattle.std.specs.List.{flat_map}
use Rattle.config_lines.specs.declared.line.Line.TheVariants.{Export as ExportLine}
use Rattle.route_map_text.specs.MapsLines.{fed, numbered}
use Rattle.route_map_text.proofs.blocks.push_outs.Given as goal

abbrev pub invariant-loop-export : goal.invariant-loop-export
invariant-loop-export l = record {
  number : l.number ≡ 10 + 10 * l.export-index;
  text : l.text.items ≡ l.initial.text.items ++ flat_map fed (numbered 10 (map ExportLine (take l.export-index l.exports)));
}
