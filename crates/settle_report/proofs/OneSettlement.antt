-- One text tells of a settlement.
use Rattle.std.proofs.Common.{◌≡◌, ℕ, List, ◌++◌, length, sym, ap₂, ◌∙◌, subst, arith}
use Rattle.std.specs.List.{flat_map}
use Rattle.outcome_base.specs.Outcomes.{Failures}
use Rattle.event_base.specs.Speaking.{speakers_of}
use Rattle.event_base.specs.Steps.{opening}
use Rattle.outcome_report.proofs.Texts.{one_report}
use Rattle.outcome_report.specs.Report.{IsReportOf, shown_of}
use Rattle.settle_report.specs.Laws.{SettlementsAreOne}
use Rattle.settle_report.specs.Lines.{deliveries_line, rounds_line}
use Rattle.settle_report.specs.Settlement.{deliveries_in, world_at}
use Rattle.trace_report.specs.Lines.{refused_line}
use Rattle.trace_report.specs.Refusals.{refused_from}
use Rattle.event_law.proofs.Scenario.{worlds_have_scenarios}
use Rattle.event_law.specs.Laws.{world_after}
use Rattle.event_law.specs.Scenarios.{routes_of, scenario_of}

pub one_settlement : SettlementsAreOne
one_settlement net policy config p es rules one other a b =
    let S = speakers_of net policy config p in
    let f : Failures = scenario_of net (world_after net policy config p es) in
    let scenario = worlds_have_scenarios net policy config p es rules in
    let less = a.first.no_sooner b.rounds b.first.quiet in
    let more = b.first.no_sooner a.rounds a.first.quiet in
    let same : a.rounds ≡ b.rounds = omega (arith, less, more) in
    let shown = subst (λ (k : ℕ). IsReportOf net policy config f p (routes_of net (world_at net policy config p es k)) a.report) same (a.shown f scenario) in
    let reports : a.report ≡ b.report =
    one_report net policy p
    (shown_of net policy config f p (routes_of net (world_at net policy config p es b.rounds))) config a.report b.report shown
    (b.shown f scenario) in
    a.spelled
    ∙ ap₂ (λ (k : ℕ) (report : List ℕ). flat_map refused_line (refused_from S 1 es (opening S)) ++ rounds_line k ++ deliveries_line (length (deliveries_in net policy config p es k)) ++ report)
    same reports
    ∙ sym b.spelled
