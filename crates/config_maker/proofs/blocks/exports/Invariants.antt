use Rattle.std.proofs.Common.{◌≡◌, map, take}
use Rattle.config_maker.specs.Writing.{export_line}
use Rattle.config_maker.proofs.blocks.exports.Given as goal

abbrev pub invariant-loop-hop : goal.invariant-loop-hop
invariant-loop-hop l = l.lines.items ≡ map export_line (take l.hop-index l.sent)
