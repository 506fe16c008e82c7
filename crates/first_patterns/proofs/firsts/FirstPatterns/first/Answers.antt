use Rattle.std.proofs.Common.{ap, ◌∙◌}
use Rattle.std.specs.Option.{option_and_then}
use Rattle.first_patterns.specs.Firsts.{place_for, placed}
use Rattle.first_patterns.proofs.firsts.FirstPatterns.first.Goals as goal

pub returns : goal.returns
returns c = λ policy firsts.
    c.at.ensures ∙ ap (option_and_then (placed c.args.self.now.patterns.items)) (c.place.ensures policy firsts)
    ∙ ap (λ ts. option_and_then (placed ts) (place_for policy c.args.prefix)) firsts.patterns
