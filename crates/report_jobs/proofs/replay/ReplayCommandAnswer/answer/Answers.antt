use Rattle.std.proofs.lemmas.Result.{IfOk-weaker}
use Rattle.report_jobs.proofs.replay.ReplayCommandAnswer.answer.Goals as goal

pub settle-requires-clause-passes : goal.settle-requires-clause-passes
settle-requires-clause-passes c = (c.requires.evidence.0, c.requires.evidence.2)

pub report-requires-clause-passes : goal.report-requires-clause-passes
report-requires-clause-passes c = (c.requires.evidence.0, c.requires.evidence.2)

pub returns : goal.returns
returns c =
    let config = c.requires.evidence.0 in
    let passes = c.requires.evidence.2 in
    IfOk-weaker c.report.result _ _ (λ bytes told. (
      config,
      (c.requires.evidence.1, passes),
      record {
        outcome = c.in_ok-outcome.outcome.routes;
        size = c.in_ok-outcome.ensures.size;
        settled = c.in_ok-outcome.ensures.settled config passes;
        report = told config passes;
      },
    )) c.report.ensures
