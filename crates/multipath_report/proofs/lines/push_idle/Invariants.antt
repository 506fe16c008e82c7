use Rattle.std.proofs.Common.{◌≡◌, ◌++◌, take}
use Rattle.std.specs.List.{flat_map}
use Rattle.multipath_report.specs.Texts.{idle_line}
use Rattle.multipath_report.proofs.lines.push_idle.Given as goal

abbrev pub invariant-loop-link : goal.invariant-loop-link
invariant-loop-link l = l.text.items ≡ l.initial.text.items ++ flat_map (idle_line l.net) (take l.link-index l.idle)
