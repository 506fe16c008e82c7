use Rattle.std.proofs.Common.{List, ◌+◌, map, subst, take, take_all}
use Rattle.std.specs.List.{AllByRecursion}
use Rattle.list_law.proofs.Changed.{map_so_far}
use Rattle.policy_base.specs.declared.policy.Statement.{Statement}
use Rattle.policy_base.specs.Policies.{plain_statement}
use Rattle.policy_text.specs.Values.{IsStatementValue}
use Rattle.policy_text.specs.PolicyText.{statement_line}
use Rattle.policy_text.proofs.Adding.{added}
use Rattle.policy_text.proofs.print.push_statements.Goals as goal

pub loop-statement-preserved : goal.loop-statement-preserved
loop-statement-preserved c =
    let statements = c.args.statements.now in
    let i = c.loop-statement.statement-index in
    let statement = c.statement-item.result in
    added (statement_line c.args.net.now) IsStatementValue (map plain_statement (take i statements)) (map plain_statement (take (i + 1) statements)) (plain_statement statement)
    c.args.text.now.items c.loop-statement.text.items c.push_statement.new.text.items
    (map_so_far plain_statement statements i statement c.loop-statement-test.true c.statement-item.is)
    c.in_ok-push_statement.ensures.text c.in_ok-push_statement.ensures.rules c.loop-statement.invariant

pub returns-clause-rules : goal.returns-clause-rules
returns-clause-rules c =
    subst (λ (ss : List Statement). AllByRecursion IsStatementValue (map plain_statement ss))
    (take_all c.loop-statement.statement-index c.args.statements.now c.loop-statement-test.false) c.loop-statement.invariant.1
