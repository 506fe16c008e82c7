use Rattle.whatif_report.proofs.Besides.{router_besides}
use Rattle.whatif_report.proofs.cut.with_cut.Goals as goal

pub returns-in_ok-scenario-in-Router : goal.returns-in_ok-scenario-in-Router
returns-in_ok-scenario-in-Router c = rw c.in-Router.is (
    router_besides c.args.scenario.now c.in_ok-scenario-in-Router.scenario _
    c.in_ok-scenario-in-Router.ensures.dead c.in_ok-scenario-in-Router.ensures.links c.in_ok-scenario-in-Router.ensures.silent c.in_ok-scenario-in-Router.ensures.prefix)
