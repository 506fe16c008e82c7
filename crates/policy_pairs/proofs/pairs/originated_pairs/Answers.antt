use Rattle.std.proofs.Common.{ap, subst, ◌∙◌, ◌≡◌, List, map, take, take_all, arith}
use Rattle.group_law.proofs.Taken.{mapped_next}
use Rattle.net_base.specs.Prefixes.{PlainPrefix}
use Rattle.policy_base.specs.Policies.{policy_of}
use Rattle.policy_pairs.specs.Groups.{AreGroups, originated_pair}
use Rattle.policy_pairs.proofs.pairs.originated_pairs.Goals as goal

pub loop-group-init : goal.loop-group-init
loop-group-init c = c.new-pairs.ensures

pub loop-group-preserved : goal.loop-group-preserved
loop-group-preserved c =
    c.in_ok-push.ensures.ok ∙ mapped_next originated_pair _ _ _ _ _ c.loop-group-test.true c.group-item.is c.loop-group.invariant c.in_ok-originated_pair.ensures

pub returns : goal.returns
returns c =
    let old = policy_of c.args.old.now in
    let new = policy_of c.args.new.now in
    let groups = c.in_ok-groups.groups.items in
    let items = c.deref-group-items.result.now in
    let all : take c.loop-group.group-index items ≡ items = take_all c.loop-group.group-index items (omega (arith, c.loop-group-test.false)) in (
      groups,
      subst (λ (ps : List PlainPrefix). AreGroups old new ps groups) (c.deref.ensures.value ∙ c.in_ok-prefixes.ensures) (c.in_ok-groups.ensures old new c.requires),
      c.loop-group.invariant ∙ ap (map originated_pair) (all ∙ c.deref-group-items.ensures.value),
    )
