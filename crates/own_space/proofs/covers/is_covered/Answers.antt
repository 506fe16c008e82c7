use Rattle.std.proofs.Common.{rules, subst}
use Rattle.list_law.proofs.Truth.{same_tests}
use Rattle.net_base.specs.Prefixes.{IsPrefix, IsPattern}
use Rattle.lint_cover.specs.Covered.{covered}
use Rattle.lint_cover.proofs.Decision.{covered-IsCovered}
use Rattle.own_space.proofs.covers.is_covered.Goals as goal

pub returns : goal.returns
returns c = λ qs held.
    let lawful : IsPattern c.args.pattern = record {
      prefix = subst IsPrefix c.base-base.ensures.base c.known_prefix.ensures;
      least = search rules;
      most = search rules;
    } in
    let told = c.covers.ensures qs held in
    let law = covered-IsCovered qs c.args.pattern lawful in
    same_tests c.covers.result (covered qs c.args.pattern) (λ h. law.1 (told.0 h)) (λ h. told.1 (law.0 h))
