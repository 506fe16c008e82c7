use Rattle.std.proofs.Common.{◌∙◌, sym, ap}
use Rattle.std.specs.Prelude.{◌&&◌}
use Rattle.std.specs.List.{list_any}
use Rattle.list_law.proofs.Positions.{list_any-no_position}
use Rattle.net_base.specs.Network.{joins}
use Rattle.outcome_claims.specs.Offers.{told_pairs}
use Rattle.outcome_claims.specs.Reported.{case_in}
use Rattle.outcome_claims.proofs.Marking.{mark_is}
use Rattle.outcome_claims.proofs.reported.ReportedOutcome.goes_on.Goals as goal

pub returns-in-None : goal.returns-in-None
returns-in-None c =
    let none = list_any-no_position (joins c.args.a c.args.b) c.args.self.now.net.now.links (sym c.link_place.ensures ∙ c.in-None.is) in
    sym (ap (λ o. o && list_any (joins c.args.a c.args.b) (told_pairs c.args.self.now.outcome.now.routes (case_in c.args.self.now))) none)

pub returns-in-Some : goal.returns-in-Some
returns-in-Some c =
    c.index.ensures
    ∙ mark_is c.args.self.now.net.now c.args.a c.args.b c.in-Some.place (sym c.link_place.ensures ∙ c.in-Some.is)
    (told_pairs c.args.self.now.outcome.now.routes (case_in c.args.self.now)) c.args.self.now.told.items c.index.result.now c.args.self.now.of_steps
