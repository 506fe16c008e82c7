-- What is told of a network that has come to rest.
use Rattle.std.proofs.Common.{◌≡◌, ℕ, ◌≤◌, List, ◌++◌, length, sym, ap, ◌∙◌, subst}
use Rattle.std.specs.List.{flat_map}
use Rattle.net_base.specs.Network.{PlainNet, IsNet}
use Rattle.net_base.specs.Prefixes.{PlainPrefix, IsPrefix}
use Rattle.policy_base.specs.Policies.{PlainPolicy, IsPolicyOf}
use Rattle.config_base.specs.declared.route.Route.{Route}
use Rattle.config_base.specs.Configs.{PlainConfig}
use Rattle.evidence_base.specs.Made.{PlainCaseEvidence}
use Rattle.evidence_law.specs.Passes.{Passes}
use Rattle.outcome_base.specs.Outcomes.{Failures}
use Rattle.event_base.specs.declared.event.Event.{Event}
use Rattle.event_base.specs.Speaking.{speakers_of}
use Rattle.event_base.specs.Steps.{IsQuiet, opening}
use Rattle.event_base.specs.World.{Speakers, World}
use Rattle.event_rounds.specs.Resting.{RestsIn, rounds_in, world_in}
use Rattle.outcome_report.specs.Report.{IsReport, IsReportOf}
use Rattle.rest_law.proofs.Ended.{rest_of_quiet, still_scenario}
use Rattle.rest_law.proofs.Ending.{run_on}
use Rattle.rest_law.specs.Rest.{IsAtRest, rounds_enough}
use Rattle.rest_law.specs.Rounds.{deliveries}
use Rattle.settle_report.specs.Lines.{deliveries_line, rounds_line}
use Rattle.settle_report.specs.Settlement.{IsSettlementOf, deliveries_in, world_at}
use Rattle.trace_report.proofs.Replayed.{quiet_worlds_are_replayed}
use Rattle.trace_report.specs.Lines.{refused_line}
use Rattle.trace_report.specs.Refusals.{refused_from}
use Rattle.trace_report.specs.Trace.{shown_by}
use Rattle.event_law.proofs.Waiting.{routes_size}
use Rattle.event_law.specs.Laws.{world_after}
use Rattle.event_law.specs.Scenarios.{IsScenarioOf, routes_of}

-- how a world came to rest in so many rounds, by so many deliveries, and which it then is
pub record HasRested (links : List (ℕ × ℕ)) (S : Speakers Route) (w : World Route) (rounds count : ℕ) (v : World Route) : Type 0 where
  pub first : RestsIn links S rounds w
  pub counted : count ≡ length (rounds_in links S rounds w)
  pub world : v ≡ world_in links S rounds w

module _ (net : PlainNet) (policy : PlainPolicy) (config : PlainConfig) (cs : List PlainCaseEvidence) (rules : IsNet net)
    (kept : IsPolicyOf net policy) (passes : Passes net policy config cs) (p : PlainPrefix) (prefix : IsPrefix p) (es : List Event) where
  abbrev S : Speakers Route
  S = speakers_of net policy config p

  abbrev w : World Route
  w = world_after net policy config p es

  -- the rounds are further events
  abbrev further : ℕ → List Event
  further rounds = es ++ deliveries (deliveries_in net policy config p es rounds)

  same_world : (rounds : ℕ) → world_at net policy config p es rounds ≡ world_after net policy config p (further rounds)
  same_world rounds = run_on S es (deliveries (deliveries_in net policy config p es rounds)) (opening S)

  at_rest : (rounds : ℕ) → IsQuiet (world_at net policy config p es rounds) → (f : Failures) → IsScenarioOf net w f → IsAtRest net policy config p f (world_after net policy config p (further rounds))
  at_rest rounds quiet f scenario =
      rest_of_quiet net policy config cs rules kept passes p prefix es f (deliveries_in net policy config p es rounds) scenario
      (subst (λ (v : World Route). IsQuiet v) (same_world rounds) quiet)

  reported : (rounds : ℕ) → IsQuiet (world_at net policy config p es rounds) → (report : List ℕ) → IsReport net policy config p (shown_by (world_at net policy config p es rounds)) report
      → (f : Failures) → IsScenarioOf net w f → IsReportOf net policy config f p (routes_of net (world_at net policy config p es rounds)) report
  reported rounds quiet report shown f scenario =
      let rest = at_rest rounds quiet f scenario in
      let ds = deliveries_in net policy config p es rounds in
      let u : World Route = world_after net policy config p (further rounds) in
      let still = still_scenario net policy config p es f ds scenario in
      let replays = quiet_worlds_are_replayed net policy config cs rules kept passes p prefix (further rounds) f rest.quiet still (routes_of net u) (routes_size net u) rest.settled report in
      subst (λ (v : World Route). IsReportOf net policy config f p (routes_of net v) report) (sym (same_world rounds))
      (replays.0 (subst (λ (v : World Route). IsReport net policy config p (shown_by v) report) (same_world rounds) shown))

  pub settlement : (rounds count : ℕ) (v : World Route) (report text : List ℕ) → rounds ≤ rounds_enough net → HasRested net.links S w rounds count v → IsReport net policy config p (shown_by v) report
      → text ≡ flat_map refused_line (refused_from S 1 es (opening S)) ++ rounds_line rounds ++ deliveries_line count ++ report → IsSettlementOf net policy config p es text
  settlement rounds count v report text enough rested shown spelled = record {
    rounds = rounds;
    first = rested.first;
    enough = enough;
    rests = λ f scenario. subst (λ (u : World Route). IsAtRest net policy config p f u) (sym (same_world rounds)) (at_rest rounds rested.first.quiet f scenario);
    report = report;
    shown = reported rounds rested.first.quiet report (subst (λ (u : World Route). IsReport net policy config p (shown_by u) report) rested.world shown);
    spelled = spelled ∙ ap (λ (k : ℕ). flat_map refused_line (refused_from S 1 es (opening S)) ++ rounds_line rounds ++ deliveries_line k ++ report) rested.counted;
  }
