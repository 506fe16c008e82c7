use Rattle.std.proofs.Common.{◌≡◌, ◌++◌, map, take}
use Rattle.class_lines.specs.ClassLines.{import_line}
use Rattle.class_lines.proofs.class_line.push_imports.Given as goal

abbrev pub invariant-loop-import : goal.invariant-loop-import
invariant-loop-import l = l.lines.items ≡ l.initial.lines.items ++ map (import_line l.router l.neighbour) (take l.import-index l.imports)
