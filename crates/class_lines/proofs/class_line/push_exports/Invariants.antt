use Rattle.std.proofs.Common.{◌≡◌, ◌++◌, map, take}
use Rattle.class_lines.specs.ClassLines.{export_line}
use Rattle.class_lines.proofs.class_line.push_exports.Given as goal

abbrev pub invariant-loop-export : goal.invariant-loop-export
invariant-loop-export l = l.lines.items ≡ l.initial.lines.items ++ map (export_line l.router l.neighbour) (take l.export-index l.exports)
