use Rattle.text_parts.proofs.PrefixTexts.{prefix_spelled-prefix_text}
use Rattle.text_parts.proofs.laws.prefixes_are_read_again.Goals as goal

pub returns : goal.returns
returns c = prefix_spelled-prefix_text
