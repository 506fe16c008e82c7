use Rattle.text_parts.proofs.Words.{number_cut, address_cut}
use Rattle.text_parts.proofs.Pieces.{prefix_cut, pattern_cut}
use Rattle.text_parts.proofs.laws.texts_are_cut_one_way.Goals as goal

pub returns-clause-numbers : goal.returns-clause-numbers
returns-clause-numbers c = number_cut

pub returns-clause-addresses : goal.returns-clause-addresses
returns-clause-addresses c = address_cut

pub returns-clause-prefixes : goal.returns-clause-prefixes
returns-clause-prefixes c = prefix_cut

pub returns-clause-patterns : goal.returns-clause-patterns
returns-clause-patterns c = pattern_cut
