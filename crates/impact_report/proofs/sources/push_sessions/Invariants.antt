use Rattle.std.proofs.Common.{◌≡◌, ◌++◌, map, take}
use Rattle.impact_report.specs.Sources.{session_source}
use Rattle.impact_report.proofs.sources.push_sessions.Given as goal

abbrev pub invariant-loop-session : goal.invariant-loop-session
invariant-loop-session l = l.sources.items ≡ l.initial.sources.items ++ map session_source (take l.session-index l.sessions)
