use Rattle.promises_report.proofs.ApartTelling.{apart_ranks_are_apart}
use Rattle.promises_report.proofs.promises.apart_ranks_are_apart.Goals as goal

pub returns : goal.returns
returns c = apart_ranks_are_apart
