use Rattle.std.proofs.Common.{List, subst}
use Rattle.std.proofs.lemmas.Result.{IfOk-weaker}
use Rattle.policy_base.specs.Policies.{policy_of}
use Rattle.event_base.specs.declared.event.Event.{Event}
use Rattle.settle_report.specs.Settlement.{IsSettlementOf}
use Rattle.report_jobs.proofs.settle.SettleCommandAnswer.answer.Goals as goal

pub returns : goal.returns
returns c =
    let config = c.in_ok-config.config in
    IfOk-weaker c.settle_events.result _ _ (λ bytes told. (
      config,
      (c.in_ok-config.ensures.made, c.in_ok-config.ensures.passes),
      subst (λ (es : List Event). IsSettlementOf c.args.net.now (policy_of c.args.policy.now) config c.args.events.now.prefix es bytes.items) c.as_slice-happened.ensures told,
    )) c.settle_events.ensures
