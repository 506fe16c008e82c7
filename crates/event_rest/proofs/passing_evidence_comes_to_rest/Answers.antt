use Rattle.event_rest.proofs.Corner.{passing_evidence_comes_to_rest}
use Rattle.event_rest.proofs.passing_evidence_comes_to_rest.Goals as goal

pub returns : goal.returns
returns c = passing_evidence_comes_to_rest
