use Rattle.std.proofs.Common.{ap₂, ◌∙◌, Option}
use Rattle.first_patterns.specs.declared.firsts.Stated.{Stated}
use Rattle.policy_pairs.specs.Pairs.{common_of}
use Rattle.policy_pairs.proofs.FirstStatements.{first_lengths}
use Rattle.policy_pairs.proofs.common.common_pattern.Goals as goal

pub common_of-pattern-requires-clause-old : goal.common_of-pattern-requires-clause-old
common_of-pattern-requires-clause-old c = first_lengths c.requires.0 c.args.prefix c.first-old.result (c.first-old.ensures c.requires.0 c.requires.2.of_old.firsts)

pub common_of-pattern-requires-clause-new : goal.common_of-pattern-requires-clause-new
common_of-pattern-requires-clause-new c = first_lengths c.requires.1 c.args.prefix c.first-new.result (c.first-new.ensures c.requires.1 c.requires.2.of_new.firsts)

pub returns : goal.returns
returns c = λ old new tells.
    let pattern =
    c.common_of-pattern.ensures
    ∙ ap₂ (λ (a b : Option Stated). common_of c.args.prefix a b) (c.first-old.ensures old tells.of_old.firsts) (c.first-new.ensures new tells.of_new.firsts) in
    λ i. record { pattern = pattern i; least = c.args.prefix }
