use Rattle.std.proofs.Common.{ap, sym, ◌∙◌}
use Rattle.std.specs.Prelude.{option_map}
use Rattle.first_patterns.specs.declared.firsts.Stated.{Stated}
use Rattle.policy_pairs.proofs.FirstStatements.{first_statement}
use Rattle.policy_pairs.proofs.asked.Told.statement.Goals as goal

pub returns-in-Some : goal.returns-in-Some
returns-in-Some c = λ policy tells.
    ap (option_map (λ (t : Stated). t.statement)) (sym c.in-Some.is ∙ c.first.ensures policy tells.firsts) ∙ first_statement policy c.args.prefix

pub returns-in-None : goal.returns-in-None
returns-in-None c = λ policy tells.
    ap (option_map (λ (t : Stated). t.statement)) (sym c.in-None.is ∙ c.first.ensures policy tells.firsts) ∙ first_statement policy c.args.prefix
