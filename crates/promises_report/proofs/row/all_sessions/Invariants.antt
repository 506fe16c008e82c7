use Rattle.std.proofs.Common.{◌≡◌, map, take}
use Rattle.promises_report.specs.Telling.{promises_in}
use Rattle.promises_report.specs.Standings.{as_session}
use Rattle.promises_report.proofs.row.all_sessions.Given as goal

abbrev pub invariant-loop-session : goal.invariant-loop-session
invariant-loop-session l = l.list ≡ map (as_session (promises_in l.told)) (take l.session-index l.sessions)
