use Rattle.std.proofs.Common.{take}
use Rattle.promises_report.specs.Tables.{AreMet, meet_among}
use Rattle.promises_report.proofs.meeting.met_ranks.Given as goal

abbrev pub invariant-loop-case : goal.invariant-loop-case
invariant-loop-case l = AreMet (meet_among l.net (take l.case-index l.cases) l.number) l.ranks l.met
