use Rattle.std.proofs.Common.{Err, ap, refl}
use Rattle.path_exprs.specs.Forward.{expressions}
use Rattle.policy_base.specs.Policies.{plain_statement}
use Rattle.case_core.proofs.LentAutomata.{automaton_extends}
use Rattle.case_core.proofs.cases.built.Goals as goal

pub build_over-requires : goal.build_over-requires
build_over-requires c = record { begun = (expressions c.args.net.now (plain_statement c.args.statement.now).ranked, c.requires.begins) }

pub returns-in-Ok-clause-built : goal.returns-in-Ok-clause-built
returns-in-Ok-clause-built c =
    let of = c.in-Ok.ensures in
    record { ranks = c.requires.few; built = of.built _ c.requires.begins; states = of.nodes; steps = of.steps }

pub returns-in-Ok-clause-automata : goal.returns-in-Ok-clause-automata
returns-in-Ok-clause-automata c =
    automaton_extends c.args.net.now (plain_statement c.args.statement.now) c.args.automata c.in-Ok.given.1 c.requires c.in-Ok.ensures.kept

pub returns-in-Err-TooManyStates-clause-refused : goal.returns-in-Err-TooManyStates-clause-refused
returns-in-Err-TooManyStates-clause-refused c = (refl, c.requires.few, c.in-Err-TooManyStates.ensures.many_states _ c.requires.begins (ap (λ e. Err e) c.in-Err-TooManyStates.field-0-is))

pub returns-in-Err-TooManySteps-clause-refused : goal.returns-in-Err-TooManySteps-clause-refused
returns-in-Err-TooManySteps-clause-refused c = (refl, c.requires.few, c.in-Err-TooManySteps.ensures.many_steps _ c.requires.begins (ap (λ e. Err e) c.in-Err-TooManySteps.field-0-is))
