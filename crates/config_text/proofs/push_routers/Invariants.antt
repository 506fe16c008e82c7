use Rattle.config_lines.specs.declared.edition.Edition.TheVariants.{Second}
use Rattle.config_text.specs.ConfigText.{router_text}
use Rattle.config_text.specs.Spelled.{HasLawfulParts}
use Rattle.config_text.proofs.Rows.{Written}
use Rattle.config_text.proofs.push_routers.Given as goal

abbrev pub invariant-loop-router : goal.invariant-loop-router
invariant-loop-router l = Written (router_text Second) HasLawfulParts l.initial.text.items l.routers l.text.items l.router-index
