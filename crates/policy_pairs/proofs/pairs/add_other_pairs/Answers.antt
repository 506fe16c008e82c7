use Rattle.std.proofs.Common.{ap, append-nil, subst, sym, ◌∙◌, ◌≡◌, ◌++◌, List, map, take, take_all, arith}
use Rattle.group_law.proofs.Taken.{mapped_behind}
use Rattle.net_base.specs.Prefixes.{PlainPrefix}
use Rattle.policy_base.specs.Policies.{policy_of}
use Rattle.policy_pairs.specs.declared.groups.Group.{Group}
use Rattle.policy_pairs.specs.Groups.{AreGroups, other_pair}
use Rattle.policy_pairs.proofs.pairs.add_other_pairs.Goals as goal

pub loop-group-init : goal.loop-group-init
loop-group-init c = sym (append-nil c.args.pairs.now)

pub loop-group-preserved : goal.loop-group-preserved
loop-group-preserved c =
    let old = policy_of c.args.old.now in
    let new = policy_of c.args.new.now in
    c.in_ok-push.ensures.ok
    ∙ mapped_behind (other_pair old new) _ _ _ _ _ c.loop-group-test.true c.group-item.is c.args.pairs.now c.loop-group.invariant (c.in_ok-other_pair.ensures old new c.requires.told)

pub returns : goal.returns
returns c =
    let old = policy_of c.args.old.now in
    let new = policy_of c.args.new.now in
    let found = c.in_ok-groups.groups.items in
    let groups = c.sort_groups.new.groups.items in
    let items = c.deref-group-items.result.now in
    let all : take c.loop-group.group-index items ≡ items = take_all c.loop-group.group-index items (omega (arith, c.loop-group-test.false)) in (
      groups,
      record {
        least = c.in_ok-least.least.items;
        are_least = c.in_ok-least.ensures c.requires.kept.0 c.requires.kept.1 c.requires.kept.2;
        are = record {
          found = found;
          are = subst (λ (ps : List PlainPrefix). AreGroups old new ps found) c.deref.ensures.value (c.in_ok-groups.ensures old new c.requires.told);
          moved = c.sort_groups.ensures.moved;
          turns = c.sort_groups.ensures.turns;
        };
      },
      c.loop-group.invariant ∙ ap (λ (gs : List Group). c.args.pairs.now ++ map (other_pair old new) gs) (all ∙ c.deref-group-items.ensures.value),
    )
