use Rattle.std.proofs.Common.{subst, take_all}
use Rattle.std.specs.Prelude.{codes}
use Rattle.std.specs.List.{AllByRecursion}
use Rattle.policy_text.specs.PolicyText.{names_in, set_text}
use Rattle.policy_text.specs.Values.{IsLocSet}
use Rattle.policy_text.proofs.Adding.{added_behind}
use Rattle.policy_text.proofs.call.push_more_sets.Goals as goal

pub loop-set-preserved : goal.loop-set-preserved
loop-set-preserved c =
    let net = c.args.net.now in
    added_behind (codes " >> ") (λ s. set_text net (names_in net s)) IsLocSet c.args.sets.now c.loop-set.set-index _ c.args.text.now.items c.loop-set.text.items c.push_bytes.new.text.items
    c.push_set.new.text.items c.loop-set-test.true c.in_ok-push_bytes.ensures c.in_ok-push_set.ensures.text c.push_set.ensures.rules c.loop-set.invariant

pub returns-clause-rules : goal.returns-clause-rules
returns-clause-rules c = subst (AllByRecursion IsLocSet) (take_all c.loop-set.set-index c.args.sets.now c.loop-set-test.false) c.loop-set.invariant.1
