use Rattle.std.proofs.Common.{◌≡◌, drop}
use Rattle.evidence_verdicts.specs.Verdicts.{all_session_lines}
use Rattle.evidence_check.specs.Difference.{lines_behind}
use Rattle.evidence_check.proofs.difference.behind_sessions.Given as goal

abbrev pub invariant-loop-session : goal.invariant-loop-session
invariant-loop-session l = lines_behind l.left (all_session_lines (drop l.session-index l.sessions)) ≡ lines_behind l.lines (all_session_lines l.sessions)
