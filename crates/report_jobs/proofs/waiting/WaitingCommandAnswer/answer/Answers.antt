use Rattle.std.proofs.Common.{List, subst}
use Rattle.std.proofs.lemmas.Result.{IfOk-weaker}
use Rattle.policy_base.specs.Policies.{policy_of}
use Rattle.event_base.specs.declared.event.Event.{Event}
use Rattle.waiting_report.specs.Waiting.{IsWaitingAfter}
use Rattle.report_jobs.proofs.waiting.WaitingCommandAnswer.answer.Goals as goal

pub returns : goal.returns
returns c =
    let config = c.in_ok-config.config in
    IfOk-weaker c.waiting.result _ _ (λ bytes told. (
      config,
      (c.in_ok-config.ensures.made, c.in_ok-config.ensures.passes),
      subst (λ (es : List Event). IsWaitingAfter c.args.net.now (policy_of c.args.policy.now) config c.args.events.now.prefix es bytes.items) c.as_slice-happened.ensures told,
    )) c.waiting.ensures
