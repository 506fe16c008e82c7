use Rattle.std.proofs.Common.{◌≡◌, ◌++◌, take}
use Rattle.std.specs.List.{flat_map}
use Rattle.free_tags.specs.Taken.{tags_of_session}
use Rattle.free_tags.proofs.taken.add_sessions.Given as goal

abbrev pub invariant-loop-session : goal.invariant-loop-session
invariant-loop-session l = l.tags.items ≡ l.initial.tags.items ++ flat_map tags_of_session (take l.session-index l.sessions)
