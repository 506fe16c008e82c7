use Rattle.std.proofs.Common.{◌+◌, subst, take, take_all}
use Rattle.std.specs.List.{AllByRecursion}
use Rattle.policy_text.specs.Values.{IsOriginValue}
use Rattle.policy_text.specs.PolicyText.{origin_line}
use Rattle.policy_text.proofs.Adding.{added, one_more}
use Rattle.policy_text.proofs.print.push_origins.Goals as goal

pub loop-origin-preserved : goal.loop-origin-preserved
loop-origin-preserved c =
    let origins = c.args.origins.now in
    let i = c.loop-origin.origin-index in
    let origin = c.origin-item.result in
    added (origin_line c.args.net.now) IsOriginValue (take i origins) (take (i + 1) origins) origin c.args.text.now.items c.loop-origin.text.items c.push_origin.new.text.items
    (one_more origins i origin c.loop-origin-test.true c.origin-item.is) c.in_ok-push_origin.ensures.text c.in_ok-push_origin.ensures.rules c.loop-origin.invariant

pub returns-clause-rules : goal.returns-clause-rules
returns-clause-rules c =
    subst (AllByRecursion IsOriginValue) (take_all c.loop-origin.origin-index c.args.origins.now c.loop-origin-test.false) c.loop-origin.invariant.1
