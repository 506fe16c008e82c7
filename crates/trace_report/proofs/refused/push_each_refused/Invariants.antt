use Rattle.std.proofs.Common.{◌≡◌, ◌++◌, take}
use Rattle.std.specs.List.{flat_map}
use Rattle.trace_report.specs.Lines.{refused_line}
use Rattle.trace_report.proofs.refused.push_each_refused.Given as goal

abbrev pub invariant-loop-event : goal.invariant-loop-event
invariant-loop-event l = l.text.items ≡ l.initial.text.items ++ flat_map refused_line (take l.event-index l.refused)
