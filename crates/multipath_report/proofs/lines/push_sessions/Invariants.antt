use Rattle.std.proofs.Common.{◌≡◌, ◌++◌, take}
use Rattle.std.specs.List.{flat_map}
use Rattle.multipath_report.specs.Told.{session_line_in}
use Rattle.multipath_report.proofs.lines.push_sessions.Given as goal

abbrev pub invariant-loop-session : goal.invariant-loop-session
invariant-loop-session l = l.text.items ≡ l.initial.text.items ++ flat_map (session_line_in l.told) (take l.session-index l.session-items)
