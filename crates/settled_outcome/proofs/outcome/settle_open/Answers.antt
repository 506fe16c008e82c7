use Rattle.std.proofs.Common.{◌≡◌, ℕ, ◌<◌, Vec, Global, List, length, Option, Some, None, ap, option_map, sym, subst, ◌∙◌}
use Rattle.std.specs.Prelude.{if◌then◌else◌}
use Rattle.net_base.specs.Sets.{holds}
use Rattle.policy_base.specs.Policies.{policy_of}
use Rattle.graph_base.specs.Runs.{place_of}
use Rattle.config_base.specs.declared.route.Route.{Route}
use Rattle.evidence_base.specs.Made.{PlainCaseEvidence}
use Rattle.outcome_base.specs.Outcomes.{no_failures}
use Rattle.settled_graph.specs.Best.{entry_at}
use Rattle.settled_outcome.specs.Outcomes.{AreSettled, case_of, held_by, started_route}
use Rattle.settled_outcome.proofs.Surviving.{left_is_under}
use Rattle.settled_outcome.proofs.Routes.{bare_settles, case_settles, starts_at_origins}
use Rattle.settled_outcome.proofs.outcome.settle_open.Goals as goal
use Rattle.settled_outcome.proofs.outcome.settle_open.Goals.{in-None+in_ok-others-in-None, in-Some+in_ok-others-in-Some}

pub case_routes-requires-clause-left : goal.case_routes-requires-clause-left
case_routes-requires-clause-left c =
    let net = c.args.net.now in
    let case = c.in-Some.case.now in
    let config = c.requires.passes.0 in
    let passes = c.requires.passes.1 in
    let f = c.requires.passes.2.0 in
    let are = c.requires.passes.2.1 in
    let found = sym (c.case_of-case.ensures net config passes.made.lines) ∙ ap (option_map (λ d. d.now)) c.in-Some.is in
    c.requires.passes.2.2 case found ∙ sym (left_is_under net f c.args.survivors.now are case.graph)

pub case_routes-requires-clause-starts : goal.case_routes-requires-clause-starts
case_routes-requires-clause-starts c = λ n start.
    let case = c.in-Some.case.now in
    let config = c.requires.passes.0 in
    let passes = c.requires.passes.1 in
    let found = sym (c.case_of-case.ensures c.args.net.now config passes.made.lines) ∙ ap (option_map (λ d. d.now)) c.in-Some.is in
    c.origins_at-origins.ensures (place_of case.graph n)
    ∙ starts_at_origins c.args.net.now (policy_of c.args.policy.now) config c.args.evidence.now.cases c.known_net.ensures c.requires.fits
    passes no_failures c.args.prefix c.known_prefix.ensures
    case found n start

pub returns-clause-settled : goal.returns-clause-settled
returns-clause-settled c = λ config passes f are.
    let net = c.args.net.now in
    let policy = policy_of c.args.policy.now in
    let cs = c.args.evidence.now.cases in
    let p = c.args.prefix in
    let s = c.args.survivors.now in
    let origins = c.origins_at-origins.result in
    let others = c.match-case.others.items in
    let size : length c.from_vec.result ≡ length net.routers = ap length c.from_vec.ensures ∙ c.in_ok-routes.ensures.size in
    let of_case = c.case_of-case.ensures net config passes.made.lines in
    let each : (r : ℕ) → r < length net.routers → entry_at c.from_vec.result r ≡ held_by s origins (started_route (case_of config cs p)) (entry_at others) r =
    λ r low. ap (λ (xs : List (Option Route)). entry_at xs r) c.from_vec.ensures ∙ c.in_ok-routes.ensures.routes r low
    ∙ ap (λ (o : Option PlainCaseEvidence). held_by s origins (started_route o) (entry_at others) r) of_case in
    elim c.match-case.branch [
      | in-None+in_ok-others-in-None w ↦ (
          let none : (r : ℕ) → entry_at others r ≡ None = λ r. ap (λ (v : Vec (Option Route) Global). entry_at v.items r) w.others-is ∙ w.in_ok-others-in-None.ensures.routes r in
          bare_settles net policy config cs c.known_net.ensures c.requires.fits passes f p c.known_prefix.ensures s are origins c.origins_at-origins.ensures
          c.from_vec.result (sym of_case ∙ ap (option_map (λ d. d.now)) w.in-None.is) size
          (λ r low. each r low ∙ ap (λ o. if holds origins r then (if holds s.dead r then None else Some (started_route (case_of config cs p) r)) else o) (none r)))
      | in-Some+in_ok-others-in-Some w ↦ (
          let case = w.in-Some.case.now in
          let settled = subst (λ (v : Vec (Option Route) Global). AreSettled net s origins case v.items) (sym w.others-is) w.in_ok-others-in-Some.ensures.settled in
          case_settles net policy config cs c.known_net.ensures c.requires.fits passes f p c.known_prefix.ensures s are origins c.origins_at-origins.ensures
          case others c.from_vec.result (sym of_case ∙ ap (option_map (λ d. d.now)) w.in-Some.is) settled size each)
    ]
