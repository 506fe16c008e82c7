use Rattle.grammar_law.proofs.SpanLaws.{tokens-spans, tokens-bytes, tokens-places}
use Rattle.grammar_law.proofs.tokens_ascend.Goals as goal

pub returns-clause-spans : goal.returns-clause-spans
returns-clause-spans c = tokens-spans

pub returns-clause-bytes : goal.returns-clause-bytes
returns-clause-bytes c = tokens-bytes

pub returns-clause-places : goal.returns-clause-places
returns-clause-places c = tokens-places
