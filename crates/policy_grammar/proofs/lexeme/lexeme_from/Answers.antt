use Rattle.policy_grammar.proofs.Lefts.{left_token, left_end, left_stray, stands_token, stands_end}
use Rattle.policy_grammar.proofs.lexeme.lexeme_from.Goals as goal

pub returns-in-Token-clause-left : goal.returns-in-Token-clause-left
returns-in-Token-clause-left c = rw c.lexeme_of.ensures (left_token _ _ _ c.in-Token.ensures.next)

pub returns-in-Token-clause-stands : goal.returns-in-Token-clause-stands
returns-in-Token-clause-stands c = rw c.lexeme_of.ensures (stands_token _ _ c.requires.fits c.in-Token.ensures.stands)

pub returns-in-End-clause-left : goal.returns-in-End-clause-left
returns-in-End-clause-left c = left_end _ _ _ c.in-End.ensures.next

pub returns-in-End-clause-stands : goal.returns-in-End-clause-stands
returns-in-End-clause-stands c = stands_end _ _ c.requires.fits

pub returns-in-End-2-clause-left : goal.returns-in-End-2-clause-left
returns-in-End-2-clause-left c = left_stray _ _ _ c.in-End.ensures.next

pub returns-in-End-2-clause-stands : goal.returns-in-End-2-clause-stands
returns-in-End-2-clause-stands c = stands_end _ _ c.requires.fits
