use Rattle.std.proofs.Common.{rules, ◌≡◌, sym, subst, ◌∙◌}
use Rattle.net_base.specs.Prefixes.{IsPrefix, IsPattern}
use Rattle.lint_cover.specs.Covered.{covered}
use Rattle.lint_cover.proofs.Decision.{covered-IsCovered}
use Rattle.lint_cover.proofs.covered.covered_by.Goals as goal

pub returns-clause-means : goal.returns-clause-means
returns-clause-means c =
    let e : c.is_covered_below.result ≡ covered c.args.patterns.now c.args.pattern = search rules in
    let lawful : IsPattern c.args.pattern = record {
      prefix = subst IsPrefix c.base-base.ensures.base c.len.ensures.rules;
      least = search rules;
      most = search rules;
    } in
    let law = covered-IsCovered c.args.patterns.now c.args.pattern lawful in
    (λ h. law.0 (sym e ∙ h), λ all. e ∙ law.1 all)
