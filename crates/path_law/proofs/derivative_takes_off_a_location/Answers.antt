use Rattle.path_law.proofs.Derivatives.{member-derivative}
use Rattle.path_law.proofs.derivative_takes_off_a_location.Goals as goal

pub returns : goal.returns
returns c = member-derivative
