use Rattle.named_rest.proofs.Ending.{ties_by_name_have_one_end}
use Rattle.named_rest.proofs.ties_by_name_have_one_end.Goals as goal

pub returns : goal.returns
returns c = ties_by_name_have_one_end
