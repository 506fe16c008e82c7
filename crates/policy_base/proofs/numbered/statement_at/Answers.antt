use Rattle.policy_base.proofs.StatementNumbers.{statement-at}
use Rattle.policy_base.proofs.numbered.statement_at.Goals as goal

pub returns : goal.returns
returns c =
    statement-at c.args.policy.now c.statements-statements.result.now c.args.number c.index-statements-number.result
    c.statements-statements.ensures.statements c.if-number-eq0.false c.if-number-statements.false c.index-statements-number.is
