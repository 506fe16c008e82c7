use Rattle.named_rest.proofs.Naming.{named_choices_take_lowest}
use Rattle.named_rest.proofs.named_choices_take_lowest.Goals as goal

pub returns : goal.returns
returns c = named_choices_take_lowest
