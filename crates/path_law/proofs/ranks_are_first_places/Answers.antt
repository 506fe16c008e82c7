use Rattle.path_law.proofs.RankedLaws.{held-alternatives, first_with-rank}
use Rattle.path_law.proofs.ranks_are_first_places.Goals as goal

pub returns : goal.returns
returns c = λ net r path rules long within. first_with-rank net r path (held-alternatives net r path rules long within)
