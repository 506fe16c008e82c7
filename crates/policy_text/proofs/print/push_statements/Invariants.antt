use Rattle.std.proofs.Common.{◌≡◌, ◌++◌, take}
use Rattle.std.specs.Prelude.{map}
use Rattle.std.specs.List.{AllByRecursion, flat_map}
use Rattle.policy_base.specs.Policies.{plain_statement}
use Rattle.policy_text.specs.PolicyText.{statement_line}
use Rattle.policy_text.specs.Values.{IsStatementValue}
use Rattle.policy_text.proofs.print.push_statements.Given as goal

abbrev pub invariant-loop-statement : goal.invariant-loop-statement
invariant-loop-statement l =
    (l.text.items ≡ l.initial.text.items ++ flat_map (statement_line l.net) (map plain_statement (take l.statement-index l.statements)))
    × AllByRecursion IsStatementValue (map plain_statement (take l.statement-index l.statements))
