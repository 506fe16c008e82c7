use Rattle.std.proofs.Common.{◌∙◌}
use Rattle.group_law.proofs.Taken.{mapped_next}
use Rattle.policy_pairs.specs.Pairs.{common_pattern}
use Rattle.policy_pairs.proofs.pairs.common_patterns.Goals as goal

pub loop-prefix-preserved : goal.loop-prefix-preserved
loop-prefix-preserved c = λ old new tells.
    c.in_ok-push.ensures.ok
    ∙ mapped_next (common_pattern old new) _ _ _ _ _ c.loop-prefix-test.true c.prefix-item.is (c.loop-prefix.invariant old new tells) (c.common_pattern.ensures old new tells)
