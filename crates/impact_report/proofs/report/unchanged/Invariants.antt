use Rattle.std.proofs.Common.{◌≡◌, [], map, take}
use Rattle.impact_law.specs.Impacts.{row_of}
use Rattle.impact_report.proofs.report.unchanged.Given as goal

abbrev pub invariant-loop-cut : goal.invariant-loop-cut
invariant-loop-cut l = l.rows ≡ map (λ cut. row_of cut []) (take l.cut-index l.cuts)
