use Rattle.std.proofs.Common.{take}
use Rattle.impact_report.specs.Rows.{AreRows}
use Rattle.impact_report.proofs.rows.Base.rows.Given as goal

abbrev pub invariant-loop-cut : goal.invariant-loop-cut
invariant-loop-cut l = AreRows l.self.net.now l.self.paths.case.now l.self.paths.left l.self.ranks (take l.cut-index l.cuts) l.rows
