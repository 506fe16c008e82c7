use Rattle.std.proofs.Common.{◌∙◌, arith}
use Rattle.policy_pairs.proofs.CaseKinds.{joined_found, joined_new}
use Rattle.policy_pairs.proofs.groups.add_prefix.Goals as goal

pub returns-in_ok-push-clause-groups : goal.returns-in_ok-push-clause-groups
returns-in_ok-push-clause-groups c = λ old new ps has kinds are.
    let stored = c.in_ok-place.ensures.stored in
    joined_found old new ps c.args.prefix c.args.kinds.now.keys kinds c.args.cases has _ c.in_ok-place.place stored.0 c.args.groups.now.items c.index_mut.result.now c.push.new.self
    c.in_ok-place.ensures.keys stored.1 stored.2 are (omega arith) c.index_mut.ensures.value c.in_ok-push.ensures.ok

pub returns-in_ok-push-2-clause-groups : goal.returns-in_ok-push-2-clause-groups
returns-in_ok-push-2-clause-groups c = λ old new ps has kinds are.
    let stored = c.in_ok-place.ensures.stored in
    c.in_ok-push-2.ensures.items
    ∙ joined_new old new ps c.args.prefix c.args.kinds.now.keys kinds c.args.cases has _ c.in_ok-place.place stored.0 c.args.groups.now.items _ c.in_ok-place.ensures.keys stored.1 are
    (omega arith) c.in_ok-group_of.ensures
