use Rattle.std.proofs.Common.{◌≡◌, ◌++◌, drop}
use Rattle.stage_maker.specs.Joined.{sessions_of}
use Rattle.stage_maker.proofs.join.joined_sessions.Given as goal

abbrev pub invariant-loop-i : goal.invariant-loop-i
invariant-loop-i l = sessions_of l.cells l.start l.other ≡ l.sessions ++ sessions_of l.cells (drop l.i l.start) (drop l.i l.other)
