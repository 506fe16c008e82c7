use Rattle.std.proofs.Common.{◌≡◌, take}
use Rattle.map_maker.proofs.copies.sessions_copy.Given as goal

abbrev pub invariant-loop-session : goal.invariant-loop-session
invariant-loop-session l = l.copy ≡ take l.session-index l.sessions
