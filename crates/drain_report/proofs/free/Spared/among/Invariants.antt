use Rattle.std.proofs.Common.{◌≡◌, filter, take}
use Rattle.drain_report.specs.Free.{spared_by}
use Rattle.drain_report.proofs.free.Spared.among.Given as goal

abbrev pub invariant-loop-cut : goal.invariant-loop-cut
invariant-loop-cut l = l.free ≡ filter (spared_by l.net l.self.left l.self.ends) (take l.cut-index l.cuts)
