use Rattle.topology.proofs.TextLaws.{answers, net_read}
use Rattle.topology.proofs.laws.texts_that_are_read.Goals as goal

pub returns-clause-only : goal.returns-clause-only
returns-clause-only c = answers.read_only

pub returns-clause-all : goal.returns-clause-all
returns-clause-all c = answers.read_all

pub returns-clause-network : goal.returns-clause-network
returns-clause-network c = net_read
