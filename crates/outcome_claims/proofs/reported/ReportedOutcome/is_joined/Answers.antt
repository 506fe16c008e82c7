use Rattle.std.proofs.Common.{◌∙◌, not, sym, ap}
use Rattle.std.specs.Prelude.{◌&&◌}
use Rattle.list_law.proofs.Positions.{list_any-no_position}
use Rattle.net_base.specs.Network.{joins}
use Rattle.outcome_base.specs.Outcomes.{is_dead_link}
use Rattle.scenarios.specs.Scenarios.{failures_of}
use Rattle.outcome_claims.proofs.Marking.{mark_read}
use Rattle.outcome_claims.proofs.reported.ReportedOutcome.is_joined.Goals as goal

pub returns-in-None : goal.returns-in-None
returns-in-None c =
    let none = list_any-no_position (joins c.args.a c.args.b) c.args.self.now.net.now.links (sym c.link_place.ensures ∙ c.in-None.is) in
    sym (ap (λ o. o && not (is_dead_link (failures_of c.args.self.now.scenario.now) c.args.a c.args.b)) none)

pub returns-in-Some : goal.returns-in-Some
returns-in-Some c =
    ap not c.index.ensures
    ∙ mark_read c.args.self.now.net.now c.args.a c.args.b c.in-Some.place (sym c.link_place.ensures ∙ c.in-Some.is)
    c.args.self.now.scenario.now.dead_links c.args.self.now.cut.items c.index.result.now c.args.self.now.of_links
