use Rattle.std.proofs.Common.{◌≡◌, ◌++◌, take}
use Rattle.std.specs.List.{flat_map}
use Rattle.drain_report.specs.Texts.{free_line}
use Rattle.drain_report.proofs.text.push_lines.Given as goal

abbrev pub invariant-loop-cut : goal.invariant-loop-cut
invariant-loop-cut l = l.text.items ≡ l.initial.text.items ++ flat_map (free_line l.net) (take l.cut-index l.free)
