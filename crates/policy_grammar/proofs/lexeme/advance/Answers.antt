use Rattle.std.proofs.Common.{◌∙◌, sym, arith}
use Rattle.policy_grammar.proofs.Lefts.{goes_in, behind_in}
use Rattle.policy_grammar.proofs.lexeme.advance.Goals as goal

pub overflow_sub-place : goal.overflow_sub-place
overflow_sub-place c = (goes_in _ _ c.requires.inside c.requires.stands).2

pub overflow_add-place : goal.overflow_add-place
overflow_add-place c = let fits = (goes_in _ _ c.requires.inside c.requires.stands).3 in omega (arith, fits)

pub lexeme_from-requires-clause-fits : goal.lexeme_from-requires-clause-fits
lexeme_from-requires-clause-fits c = (goes_in _ _ c.requires.inside c.requires.stands).0

pub lexeme_from-requires-clause-place : goal.lexeme_from-requires-clause-place
lexeme_from-requires-clause-place c = (goes_in _ _ c.requires.inside c.requires.stands).1

pub returns-clause-left : goal.returns-clause-left
returns-clause-left c = behind_in _ _ c.requires.inside ∙ sym c.lexeme_from.ensures.left
