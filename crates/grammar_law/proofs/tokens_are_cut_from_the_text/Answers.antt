use Rattle.grammar_law.proofs.Cuts.{cut-tokens}
use Rattle.grammar_law.proofs.SpanLaws.{tokens-cut}
use Rattle.grammar_law.proofs.tokens_are_cut_from_the_text.Goals as goal

pub returns-clause-only : goal.returns-clause-only
returns-clause-only c = tokens-cut

pub returns-clause-all : goal.returns-clause-all
returns-clause-all c = cut-tokens
