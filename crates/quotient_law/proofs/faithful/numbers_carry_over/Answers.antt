use Rattle.quotient_law.proofs.Each.{total_on_each}
use Rattle.quotient_law.proofs.faithful.numbers_carry_over.Goals as goal

pub returns : goal.returns
returns c = total_on_each
