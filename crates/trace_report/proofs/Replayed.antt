-- A quiet world shows what its settled outcome shows.
use Rattle.std.proofs.Common.{◌≡◌, ℕ, ◌<◌, length, Option, sym, ap, ◌∙◌, subst}
use Rattle.std.specs.Prelude.{option_and_then, option_map}
use Rattle.std.proofs.lemmas.Option.{slice_get-map}
use Rattle.net_base.specs.Network.{PlainNet}
use Rattle.net_base.specs.Locations.{numbers_below}
use Rattle.net_base.proofs.NumbersBelow.{slice_get-numbers_below}
use Rattle.config_base.specs.declared.route.Route.{Route}
use Rattle.outcome_base.specs.Outcomes.{Outcome, route_at}
use Rattle.event_base.specs.World.{World}
use Rattle.settled_law.proofs.SettledLaw.{settled_outcomes_are_one}
use Rattle.event_law.proofs.Waiting.{peers_hear_offers, quiet_worlds_are_settled, routes_size}
use Rattle.event_law.specs.Laws.{world_after}
use Rattle.event_law.specs.Scenarios.{routes_of}
use Rattle.outcome_report.specs.Report.{IsReportOf, shown_of}
use Rattle.outcome_report.proofs.Alike.{ShowAlike, same_reports}
use Rattle.trace_report.specs.Laws.{QuietWorldsAreReplayed}
use Rattle.trace_report.specs.Trace.{shown_by}

route_there : (net : PlainNet) (w : World Route) (r : ℕ) → r < length net.routers → route_at (routes_of net w) r ≡ w.route r
route_there net w r less =
    let n = length net.routers in
    ap (option_and_then (λ (o : Option Route). o)) (slice_get-map w.route (numbers_below n) r ∙ ap (option_map w.route) (slice_get-numbers_below n r less))

pub quiet_worlds_are_replayed : QuietWorldsAreReplayed
quiet_worlds_are_replayed net policy config cs rules kept passes p prefix es f quiet scenario outcome size stable text =
    let w = world_after net policy config p es in
    let settled = quiet_worlds_are_settled net policy config p es f rules quiet scenario in
    let same : routes_of net w ≡ outcome = settled_outcomes_are_one net policy config cs rules kept passes p f prefix (routes_of net w) outcome (routes_size net w) size settled stable in
    let alike : ShowAlike net (shown_by w) (shown_of net policy config f p (routes_of net w)) = record {
      dead = λ r less. sym (scenario.dead r);
      path = λ r less. ap (option_map (λ (h : Route). h.path)) (sym (route_there net w r less));
      offer = λ r peer router there. peers_hear_offers net policy config cs rules kept passes p prefix es f quiet scenario r peer router there;
    } in
    let reports = same_reports net policy config p (shown_by w) (shown_of net policy config f p (routes_of net w)) alike text in (
      λ x. subst (λ (o : Outcome). IsReportOf net policy config f p o text) same (reports.0 x),
      λ x. reports.1 (subst (λ (o : Outcome). IsReportOf net policy config f p o text) (sym same) x),
    )
