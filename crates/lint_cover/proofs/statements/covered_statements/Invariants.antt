use Rattle.std.proofs.Common.{map}
use Rattle.policy_base.specs.Policies.{plain_statement}
use Rattle.lint_cover.specs.Statements.{patterns_before}
use Rattle.lint_cover.specs.Tables.{Holds}
use Rattle.lint_cover.proofs.Covering.{AreMarkedTo}
use Rattle.lint_cover.proofs.statements.covered_statements.Given as goal

abbrev pub invariant-loop-statement : goal.invariant-loop-statement
invariant-loop-statement l = record {
  held : Holds l.table (patterns_before (map plain_statement l.statements) l.statement-index);
  marks : AreMarkedTo (map plain_statement l.statements) l.statement-index l.marks.items;
}
