use Rattle.json_values.proofs.ReadAgain.{json_of-line}
use Rattle.json_values.proofs.laws.printed_values_are_read.Goals as goal

pub returns : goal.returns
returns c = json_of-line
