use Rattle.evidence_text.proofs.Rewritten.{read_again}
use Rattle.evidence_text.proofs.laws.printed_evidence_is_read.Goals as goal

pub returns : goal.returns
returns c = read_again
