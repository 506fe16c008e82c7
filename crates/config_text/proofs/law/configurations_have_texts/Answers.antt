use Rattle.config_text.proofs.LawfulLines.{lawful_lines, lawful_text}
use Rattle.config_text.proofs.law.configurations_have_texts.Goals as goal

pub returns-clause-lines : goal.returns-clause-lines
returns-clause-lines c = lawful_lines

pub returns-clause-texts : goal.returns-clause-texts
returns-clause-texts c = lawful_text
