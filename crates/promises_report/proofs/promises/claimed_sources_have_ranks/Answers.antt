use Rattle.promises_report.proofs.PromisesTelling.{claimed_sources_have_ranks}
use Rattle.promises_report.proofs.promises.claimed_sources_have_ranks.Goals as goal

pub returns : goal.returns
returns c = claimed_sources_have_ranks
