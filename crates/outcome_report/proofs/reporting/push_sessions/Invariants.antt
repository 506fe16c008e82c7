use Rattle.std.proofs.Common.{◌≡◌, ◌++◌, take}
use Rattle.std.specs.List.{flat_map}
use Rattle.outcome_claims.specs.Claims.{statement_in}
use Rattle.outcome_report.specs.Lines.{session_line}
use Rattle.outcome_report.proofs.reporting.push_sessions.Given as goal

abbrev pub invariant-loop-session : goal.invariant-loop-session
invariant-loop-session g l =
    l.text.items
    ≡ l.initial.text.items
    ++ flat_map (session_line l.subject.net.now (statement_in l.subject.claims) (g.S.Scene.shown l.scene))
    (take l.session-index l.session-items)
