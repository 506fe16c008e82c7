use Rattle.std.proofs.Common.{◌≡◌, max, take}
use Rattle.std.specs.List.{flat_map, fold}
use Rattle.free_tags.specs.Taken.{prefs_of_session}
use Rattle.free_tags.proofs.taken.top_of_sessions.Given as goal

abbrev pub invariant-loop-session : goal.invariant-loop-session
invariant-loop-session l = l.most ≡ fold max l.top (flat_map prefs_of_session (take l.session-index l.sessions))
