use Rattle.std.proofs.Common.{ap}
use Rattle.std.proofs.lemmas.Result.{IfOk-weaker}
use Rattle.policy_base.specs.Policies.{IsPolicyOf, policy_of}
use Rattle.evidence_law.specs.Passes.{Passes}
use Rattle.scenarios.specs.Scenarios.{failures_of}
use Rattle.multipath_law.specs.Carried.{IsMultipath}
use Rattle.multipath_report.specs.Texts.{IsMultipathText}
use Rattle.report_jobs.proofs.Situated.{in_situation, of_situation}
use Rattle.report_jobs.proofs.multipath.MultipathCommandAnswer.answer.Goals as goal

pub settle-requires-clause-passes : goal.settle-requires-clause-passes
settle-requires-clause-passes c = (c.in_ok-config.config, c.in_ok-config.ensures.passes)

pub multipath_text-requires-clause-fits : goal.multipath_text-requires-clause-fits
multipath_text-requires-clause-fits c =
    let of = c.new-situation.ensures in
    in_situation (λ n q k. IsPolicyOf n q) c.new-situation.result c.args.net.now (policy_of c.args.policy.now) c.in_ok-config.config of.net (ap policy_of of.policy) of.config c.requires.fits

pub multipath_text-requires-clause-passes : goal.multipath_text-requires-clause-passes
multipath_text-requires-clause-passes c =
    let of = c.new-situation.ensures in
    in_situation (λ n q k. Passes n q k c.args.evidence.now.cases) c.new-situation.result c.args.net.now (policy_of c.args.policy.now) c.in_ok-config.config of.net (ap policy_of of.policy) of.config
    c.in_ok-config.ensures.passes

pub returns : goal.returns
returns c =
    let net = c.args.net.now in
    let policy = policy_of c.args.policy.now in
    let scenario = c.args.scenario.now in
    let config = c.in_ok-config.config in
    let outcome = c.in_ok-outcome.outcome.routes in
    let multipath = c.in_ok-multipath.multipath in
    let of = c.new-situation.ensures in
    let s = c.new-situation.result in
    IfOk-weaker c.multipath_text.result _ _ (λ bytes told. (
      config,
      (c.in_ok-config.ensures.made, c.in_ok-config.ensures.passes),
      record {
        outcome = outcome;
        size = c.in_ok-outcome.ensures.size;
        settled = c.in_ok-outcome.ensures.settled config c.in_ok-config.ensures.passes;
        multipath = multipath;
        is =
            of_situation (λ n q k sc o. IsMultipath n q k (failures_of sc) sc.prefix o multipath) s net policy config scenario outcome
            of.net (ap policy_of of.policy) of.config of.scenario (ap (λ o. o.routes) of.outcome) c.in_ok-multipath.ensures;
        spelled =
            of_situation (λ n q k sc o. IsMultipathText n q k (failures_of sc) sc.prefix o multipath bytes.items) s net policy config scenario outcome
            of.net (ap policy_of of.policy) of.config of.scenario (ap (λ o. o.routes) of.outcome) told;
      },
    )) c.multipath_text.ensures
