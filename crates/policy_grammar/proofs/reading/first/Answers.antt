use Rattle.std.proofs.Common.{refl}
use Rattle.policy_grammar.proofs.reading.first.Goals as goal

pub returns-else-past-clause-read : goal.returns-else-past-clause-read
returns-else-past-clause-read c = λ memory. let away = c.if-past.ensures.away refl in rw (c.refused.ensures c.args.text.now, away.0, away.1) refl
