use Rattle.std.proofs.Common.{[], ap, sym, subst, subst₂, ◌∙◌, ◌≡◌, List, map, take, take_all, arith}
use Rattle.group_law.proofs.Taken.{take_next}
use Rattle.net_base.specs.Prefixes.{PlainPrefix}
use Rattle.compare_base.specs.declared.cases.CasePair.{CasePair}
use Rattle.policy_pairs.specs.Groups.{AreKinds, group_for}
use Rattle.policy_pairs.proofs.CaseKinds.{kinds_more, kinds_none}
use Rattle.policy_pairs.proofs.groups.grouped.Goals as goal

pub loop-prefix-init : goal.loop-prefix-init
loop-prefix-init c = λ old new tells. (
  subst (λ (ks : List CasePair). AreKinds old new [] ks) (sym c.new-kinds.ensures.empty) (kinds_none old new),
  c.new-groups.ensures.items ∙ ap (map (group_for old new [])) (sym c.new-kinds.ensures.empty),
)

pub loop-prefix-preserved : goal.loop-prefix-preserved
loop-prefix-preserved c = λ old new tells.
    let i = c.loop-prefix.prefix-index in
    let before = c.loop-prefix.invariant old new tells in
    let next = take_next c.args.prefixes.now i c.prefix-item.result c.loop-prefix-test.true c.prefix-item.is in
    let has = sym (c.cases.ensures old new tells) in
    let more = kinds_more old new (take i c.args.prefixes.now) c.prefix-item.result c.loop-prefix.kinds.keys before.0 c.cases.result has in (
      subst₂ (λ (ps : List PlainPrefix) (ks : List CasePair). AreKinds old new ps ks) (sym next) (sym c.in_ok-add_prefix.ensures.kinds) more,
      c.in_ok-add_prefix.ensures.groups old new (take i c.args.prefixes.now) has before.0 before.1
          ∙ ap (λ (ps : List PlainPrefix). map (group_for old new ps) c.add_prefix.new.kinds.keys) (sym next),
    )

pub returns : goal.returns
returns c = λ old new tells.
    let all : take c.loop-prefix.prefix-index c.args.prefixes.now ≡ c.args.prefixes.now = take_all c.loop-prefix.prefix-index c.args.prefixes.now (omega (arith, c.loop-prefix-test.false)) in
    let known = c.loop-prefix.invariant old new tells in (
      c.loop-prefix.kinds.keys,
      subst (λ (ps : List PlainPrefix). AreKinds old new ps c.loop-prefix.kinds.keys) all known.0,
      known.1 ∙ ap (λ (ps : List PlainPrefix). map (group_for old new ps) c.loop-prefix.kinds.keys) all,
    )
