use Rattle.std.proofs.Common.{◌≡◌, drop, map}
use Rattle.policy_base.specs.Policies.{plain_statement}
use Rattle.policy_base.specs.Governing.{statement_from}
use Rattle.policy_base.proofs.governed.statement_of.Given as goal

abbrev pub invariant-loop-statement : goal.invariant-loop-statement
invariant-loop-statement l =
    statement_from (map plain_statement l.statement-items) l.prefix ≡ statement_from (map plain_statement (drop l.statement-index l.statement-items)) l.prefix
