-- A configuration whose evidence passes withstands its peers.
use Rattle.std.proofs.Common.{◌∙◌}
use Rattle.std.specs.Prelude.{option_map}
use Rattle.std.proofs.lemmas.List.{length-map}
use Rattle.outcome_base.specs.Announcements.{FullRoute, inside, silenced}
use Rattle.evidence_law.proofs.RightLaw.{passing_evidence_is_right}
use Rattle.outcome_law.specs.Laws.{PassingEvidenceWithstandsPeers}
use Rattle.outcome_law.proofs.Announced.{announcements_are_silences, leaks_nothing, refuses_own}
use Rattle.outcome_law.proofs.Exists.{stable_under_exist}
use Rattle.outcome_law.proofs.Heard.{offers_are_taken}

pub passing_evidence_withstands_peers : PassingEvidenceWithstandsPeers
passing_evidence_withstands_peers net policy config cs rules kept passes = record {
  right = λ p f says full prefix size stable.
      passing_evidence_is_right net policy config cs rules kept passes p (silenced net says f) (inside full) prefix (length-map full (option_map (λ (t : FullRoute). t.route)) ∙ size)
      (announcements_are_silences net policy config cs rules kept passes.made p f says full prefix stable);
  offers = λ p f says full prefix stable r peer. offers_are_taken net policy config cs rules kept passes.made p f says full prefix stable r peer;
  outcomes = λ p f says prefix. stable_under_exist net policy config cs rules kept passes p f says prefix;
  refused = λ p f says full prefix which peer r at_peer router. refuses_own net policy config cs rules kept passes.made p f says full prefix which peer r at_peer router;
  unleaked = λ p f says full prefix outside r peer router at_peer. leaks_nothing net policy config cs rules kept passes.made p f says full prefix outside r peer router at_peer;
}
