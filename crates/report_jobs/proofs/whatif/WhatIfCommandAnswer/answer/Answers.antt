use Rattle.std.proofs.Common.{ap}
use Rattle.std.proofs.lemmas.Result.{IfOk-weaker}
use Rattle.policy_base.specs.Policies.{IsPolicyOf, policy_of}
use Rattle.evidence_law.specs.Passes.{Passes}
use Rattle.scenarios.specs.Scenarios.{failures_of}
use Rattle.whatif_report.specs.Moves.{IsSettledOutcome, IsWhatIf}
use Rattle.report_jobs.proofs.Numbering.{as_many}
use Rattle.report_jobs.proofs.Situated.{from_situation, in_situation, of_situation}
use Rattle.report_jobs.proofs.whatif.WhatIfCommandAnswer.answer.Goals as goal

pub settle-requires-clause-passes : goal.settle-requires-clause-passes
settle-requires-clause-passes c = (c.in_ok-config.config, c.in_ok-config.ensures.passes)

pub what_if-requires-clause-fits : goal.what_if-requires-clause-fits
what_if-requires-clause-fits c =
    let of = c.new-situation.ensures in
    in_situation (λ n q k. IsPolicyOf n q) c.new-situation.result c.args.net.now (policy_of c.args.policy.now) c.in_ok-config.config of.net (ap policy_of of.policy) of.config c.requires.fits

pub what_if-requires-clause-passes : goal.what_if-requires-clause-passes
what_if-requires-clause-passes c =
    let of = c.new-situation.ensures in
    in_situation (λ n q k. Passes n q k c.args.evidence.now.cases) c.new-situation.result c.args.net.now (policy_of c.args.policy.now) c.in_ok-config.config of.net (ap policy_of of.policy) of.config
    c.in_ok-config.ensures.passes

pub what_if-requires-clause-settled : goal.what_if-requires-clause-settled
what_if-requires-clause-settled c =
    let of = c.new-situation.ensures in
    from_situation (λ n q k sc o. IsSettledOutcome n q k (failures_of sc) sc.prefix o) c.new-situation.result
    c.args.net.now (policy_of c.args.policy.now) c.in_ok-config.config c.args.scenario.now c.in_ok-outcome.outcome.routes
    of.net (ap policy_of of.policy) of.config of.scenario (ap (λ o. o.routes) of.outcome)
    (record { size = c.in_ok-outcome.ensures.size; stable = c.in_ok-outcome.ensures.settled c.in_ok-config.config c.in_ok-config.ensures.passes })

pub what_if_text-requires : goal.what_if_text-requires
what_if_text-requires c =
    let s = c.new-situation.result in
    as_many s.net.now (policy_of s.policy.now) s.config.now (failures_of s.scenario.now) s.scenario.now.prefix c.in_ok-what_if.what_if c.in_ok-what_if.ensures

pub returns : goal.returns
returns c =
    let config = c.in_ok-config.config in
    let passes = c.in_ok-config.ensures.passes in
    let of = c.new-situation.ensures in
    let what_if = c.in_ok-what_if.what_if in
    IfOk-weaker c.what_if_text.result _ _ (λ bytes told. (
      config,
      (c.in_ok-config.ensures.made, passes),
      record {
        what_if = what_if;
        is =
            of_situation (λ n q k sc o. IsWhatIf n q k (failures_of sc) sc.prefix what_if) c.new-situation.result c.args.net.now (policy_of c.args.policy.now) config c.args.scenario.now c.in_ok-outcome.outcome.routes
            of.net (ap policy_of of.policy) of.config of.scenario (ap (λ o. o.routes) of.outcome) c.in_ok-what_if.ensures;
        spelled = told config (c.class_of-class.ensures c.args.net.now config passes.made.lines);
      },
    )) c.what_if_text.ensures
