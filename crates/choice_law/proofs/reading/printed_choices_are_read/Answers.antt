use Rattle.choice_law.proofs.Choices.{read_again}
use Rattle.choice_law.proofs.reading.printed_choices_are_read.Goals as goal

pub returns : goal.returns
returns c = read_again
