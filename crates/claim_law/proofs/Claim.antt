-- A configuration whose evidence passes keeps the policy: a line for each part of the claim.
use Rattle.outcome_law.proofs.Withstanding.{passing_evidence_withstands_peers}
use Rattle.evidence_law.proofs.ExistenceLaw.{stable_outcomes_exist}
use Rattle.evidence_law.proofs.RightLaw.{passing_evidence_is_right}
use Rattle.outcome_law.proofs.Longest.{packets_arrive}
use Rattle.motion_law.proofs.Ever.{every_route_is_allowed}
use Rattle.motion_rest.proofs.Resting.{passing_evidence_rests}
use Rattle.multipath_law.proofs.Spread.{passing_evidence_spreads_right}
use Rattle.event_rest.proofs.Corner.{passing_evidence_comes_to_rest}
use Rattle.claim_law.specs.Laws.{PassingEvidenceKeepsPolicy, PassingEvidenceKeepsItAtWork}
use Rattle.claim_law.proofs.OfNet.{made_configurations_are_of_their_net}
use Rattle.claim_law.proofs.Taken.{made_configurations_take_permitted}

pub passing_evidence_keeps_policy : PassingEvidenceKeepsPolicy
passing_evidence_keeps_policy net policy config cs rules fits passes = record {
  of_net = made_configurations_are_of_their_net net policy config cs rules fits passes.made;
  right = passing_evidence_is_right net policy config cs rules fits passes;
  outcomes = stable_outcomes_exist net policy config cs rules fits passes;
}

pub passing_evidence_keeps_it_at_work : PassingEvidenceKeepsItAtWork
passing_evidence_keeps_it_at_work net policy config cs rules fits passes = record {
  packets = packets_arrive net policy config rules;
  spread = passing_evidence_spreads_right net policy config cs rules fits passes;
  taken = made_configurations_take_permitted net policy config cs rules fits passes.made;
  motion = record {
    peers = passing_evidence_withstands_peers net policy config cs rules fits passes;
    moments = every_route_is_allowed net policy config cs rules fits passes;
    rests = passing_evidence_rests net policy config cs rules fits passes;
    settles = passing_evidence_comes_to_rest net policy config cs rules fits passes;
  };
}
