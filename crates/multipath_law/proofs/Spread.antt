-- A configuration for which the evidence passes spreads packets right.
use Rattle.multipath_law.specs.Laws.{PassingEvidenceSpreadsRight}
use Rattle.multipath_law.proofs.Announced.{spread_packets_arrive_under, spreads_are_right_under}
use Rattle.multipath_law.proofs.Lengths.{parts_arrive, spread_packets_arrive}
use Rattle.multipath_law.proofs.Repaired.{repairs_are_right, repairs_go_on}
use Rattle.multipath_law.proofs.Right.{spreads_are_right}

pub passing_evidence_spreads_right : PassingEvidenceSpreadsRight
passing_evidence_spreads_right net policy config cs rules kept passes = record {
  arrive = spread_packets_arrive net policy config rules;
  parts = parts_arrive net policy config rules;
  right = spreads_are_right net policy config cs rules kept passes;
  repairs = repairs_are_right net policy config cs rules kept passes;
  onward = repairs_go_on net policy config rules;
  arrive_under = spread_packets_arrive_under net policy config cs rules kept passes;
  right_under = spreads_are_right_under net policy config cs rules kept passes;
}
