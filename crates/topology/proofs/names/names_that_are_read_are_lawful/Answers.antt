use Rattle.topology.proofs.LawfulNames.{names_read}
use Rattle.topology.proofs.names.names_that_are_read_are_lawful.Goals as goal

pub returns : goal.returns
returns c = names_read
