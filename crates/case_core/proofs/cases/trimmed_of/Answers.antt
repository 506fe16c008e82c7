use Rattle.std.proofs.Common.{length, ap, arith, subst, sym}
use Rattle.list_law.proofs.Exits.{passed_on}
use Rattle.policy_base.specs.Policies.{plain_statement}
use Rattle.case_core.specs.Automata.{IsAutomatonOf}
use Rattle.case_core.proofs.cases.trimmed_of.Goals as goal

pub built-requires : goal.built-requires
built-requires c = c.in_ok-kept.ensures.automata

pub overflow_cast-used : goal.overflow_cast-used
overflow_cast-used c = omega (arith, c.in_ok-given.ensures.built.steps, ap length c.steps.ensures.steps)

pub returns-in_err-kept-clause-limits : goal.returns-in_err-kept-clause-limits
returns-in_err-kept-clause-limits c =
    rw (passed_on c.from_residual.result c.from_residual.ensures.1) c.in_err-kept.ensures.limits

pub returns-in_err-kept-clause-refused : goal.returns-in_err-kept-clause-refused
returns-in_err-kept-clause-refused c =
    rw (passed_on c.from_residual.result c.from_residual.ensures.1) (c.in_err-kept.ensures.refused c.args.room c.args.case.now)

pub returns-in_err-given-clause-limits : goal.returns-in_err-given-clause-limits
returns-in_err-given-clause-limits c =
    rw (passed_on c.from_residual-in_err-given.result c.from_residual-in_err-given.ensures.1) c.in_err-given.ensures.limits

pub returns-in_err-given-clause-refused : goal.returns-in_err-given-clause-refused
returns-in_err-given-clause-refused c =
    rw (passed_on c.from_residual-in_err-given.result c.from_residual-in_err-given.ensures.1) c.in_err-given.ensures.refused

pub returns-clause-graph : goal.returns-clause-graph
returns-clause-graph c = (c.in_ok-given.given.0, record { within = c.in_ok-given.ensures.built; trimmed = c.in_ok-graph.ensures }, ap length c.steps.ensures.steps)

pub returns-clause-automata : goal.returns-clause-automata
returns-clause-automata c =
    subst (IsAutomatonOf c.args.net.now (plain_statement c.args.statement.now)) (sym c.automaton_of.ensures) c.in_ok-given.ensures.automata

pub returns-clause-statement : goal.returns-clause-statement
returns-clause-statement c = c.in_ok-kept.ensures.statement
