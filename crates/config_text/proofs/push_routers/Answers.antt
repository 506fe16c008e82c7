use Rattle.config_lines.specs.declared.edition.Edition.TheVariants.{Second}
use Rattle.config_text.specs.ConfigText.{router_text}
use Rattle.config_text.specs.Spelled.{HasLawfulParts}
use Rattle.config_text.proofs.Rows.{one_more, all_written}
use Rattle.config_text.proofs.push_routers.Goals as goal

pub loop-router-preserved : goal.loop-router-preserved
loop-router-preserved c =
    one_more (router_text Second) HasLawfulParts c.args.text.now.items c.args.routers.now c.loop-router.text.items _ c.loop-router.router-index c.router-item.result
    c.loop-router-test.true c.router-item.is c.loop-router.invariant c.in_ok-push_router.ensures.text c.in_ok-push_router.ensures.rules

pub returns-clause-text : goal.returns-clause-text
returns-clause-text c = (all_written (router_text Second) HasLawfulParts c.args.text.now.items c.args.routers.now _ c.loop-router.router-index c.loop-router-test.false c.loop-router.invariant).0

pub returns-clause-rules : goal.returns-clause-rules
returns-clause-rules c = (all_written (router_text Second) HasLawfulParts c.args.text.now.items c.args.routers.now _ c.loop-router.router-index c.loop-router-test.false c.loop-router.invariant).1
