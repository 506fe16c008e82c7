use Rattle.std.proofs.Common.{◌≡◌, take, min}
use Rattle.std.specs.Prelude.{sum_by}
use Rattle.map_maker.specs.Counts.{lines_of_session}
use Rattle.map_maker.specs.Earlier.{top}
use Rattle.map_maker.proofs.counts.sessions_lines.Given as goal

abbrev pub invariant-loop-session : goal.invariant-loop-session
invariant-loop-session l = l.total ≡ min (sum_by lines_of_session (take l.session-index l.sessions)) top
