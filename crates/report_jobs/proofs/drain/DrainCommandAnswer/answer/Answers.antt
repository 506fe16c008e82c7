use Rattle.std.proofs.lemmas.Result.{IfOk-weaker}
use Rattle.report_jobs.proofs.drain.DrainCommandAnswer.answer.Goals as goal

pub settle-requires-clause-passes : goal.settle-requires-clause-passes
settle-requires-clause-passes c = (c.requires.evidence.0, c.requires.evidence.2)

pub returns : goal.returns
returns c =
    let config = c.requires.evidence.0 in
    let passes = c.requires.evidence.2 in
    IfOk-weaker c.drain_text.result _ _ (λ bytes told. (
      config,
      (c.requires.evidence.1, passes),
      record {
        outcome = c.in_ok-outcome.outcome.routes;
        size = c.in_ok-outcome.ensures.size;
        settled = c.in_ok-outcome.ensures.settled config passes;
        drain = c.in_ok-drain.drain;
        is = c.in_ok-drain.ensures config passes;
        spelled = told config (c.class_of-class.ensures c.args.net.now config passes.made.lines);
      },
    )) c.drain_text.ensures
