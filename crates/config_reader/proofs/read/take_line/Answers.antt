use Rattle.std.proofs.Common.{refl}
use Rattle.list_law.proofs.Exits.{passed_on}
use Rattle.config_reader.specs.Text.{with_line}
use Rattle.config_reader.proofs.read.take_line.Goals as goal

pub returns-in_err-line : goal.returns-in_err-line
unfolding with_line
returns-in_err-line c =
    rw (passed_on c.from_residual.result c.from_residual.ensures.1) (λ memory. let wrong = rw c.count_of_classes-classes.ensures at (c.in_err-line.ensures memory) in rw wrong refl)

pub returns : goal.returns
unfolding with_line
returns c = let read = rw c.count_of_classes-classes.ensures at c.in_ok-line.ensures in rw read c.follow_at.ensures
