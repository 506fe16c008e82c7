use Rattle.text_law.proofs.Configurations.{spellings_are_texts, texts_are_of_one}
use Rattle.text_law.proofs.configurations_have_their_text.Goals as goal

pub returns-clause-only : goal.returns-clause-only
returns-clause-only c = spellings_are_texts

pub returns-clause-one : goal.returns-clause-one
returns-clause-one c = texts_are_of_one
