use Rattle.std.proofs.Common.{[], ◌∷◌, ◌++◌, ap, ◌∙◌}
use Rattle.std.specs.Prelude.{if◌then◌else◌}
use Rattle.policy_pairs.proofs.OtherPrefixes.{others_next}
use Rattle.policy_pairs.proofs.pairs.push_other_prefixes.Goals as goal

pub loop-item-preserved : goal.loop-item-preserved
loop-item-preserved c = λ policy tells.
    others_next policy.origins _ _ c.item-item.result _ _ c.loop-item-test.true c.item-item.is
    (c.in_ok-push_unless.ensures ∙ ap (λ b. c.loop-item.prefixes.items ++ (if b then [] else c.item-item.result.prefix ∷ [])) (c.originates.ensures policy tells))
    ∙ c.loop-item.invariant policy tells
