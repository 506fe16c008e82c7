use Rattle.net_text.proofs.ReadAgain.{read_again}
use Rattle.net_text.proofs.law.printed_networks_are_read.Goals as goal

pub returns : goal.returns
returns c = read_again
