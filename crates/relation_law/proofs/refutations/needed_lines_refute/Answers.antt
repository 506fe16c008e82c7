use Rattle.relation_law.proofs.Chains.{refutes_by_chains}
use Rattle.relation_law.proofs.refutations.needed_lines_refute.Goals as goal

pub returns : goal.returns
returns c = λ g claimed reach first second lines ok exact r. refutes_by_chains g claimed ok reach exact first second lines r
