use Rattle.std.proofs.Common.{rules, subst}
use Rattle.std.specs.List.{AllByRecursion}
use Rattle.config_text.specs.Spelled.{ArePatterns, HasLawfulParts, IsLawful}
use Rattle.config_text.proofs.LawfulLines.{lawful_lines}
use Rattle.config_text.proofs.print_config.Goals as goal

pub returns-clause-spells : goal.returns-clause-spells
returns-clause-spells c =
    let lawful : IsLawful c.args.config.now = record {
      rules = c.routers.ensures.rules;
      patterns = subst (AllByRecursion ArePatterns) c.classes.ensures.classes c.in_ok-push_classes.ensures.rules;
      routers = subst (AllByRecursion HasLawfulParts) c.routers-2.ensures.routers c.in_ok-push_routers.ensures.rules;
    } in
    record { lawful = lawful; fits = lawful_lines c.args.config.now lawful; written = search rules }
