use Rattle.routing_law.proofs.Used.{plain_numbers_pass}
use Rattle.routing_law.proofs.plain_numbers_pass.Goals as goal

pub returns : goal.returns
returns c = plain_numbers_pass
