use Rattle.std.proofs.Common.{◌≡◌, ℕ, take, filter, not}
use Rattle.compare_report.specs.Groups.{seen}
use Rattle.compare_report.specs.Kinds.{is_one, session_place}
use Rattle.compare_report.proofs.places.other_sessions.Given as goal

abbrev pub invariant-loop-session : goal.invariant-loop-session
invariant-loop-session l = l.list.items ≡ filter (λ (s : ℕ × ℕ). not (is_one l.kind (seen l.group) (session_place s))) (take l.session-index l.sessions)
