use Rattle.std.proofs.Common.{◌≡◌, drop}
use Rattle.std.specs.List.{list_any}
use Rattle.policy_base.specs.declared.policy.Origin.{Origin}
use Rattle.own_space.specs.Spaces.{is_around}
use Rattle.own_space.proofs.spaces.is_within.Given as goal

abbrev pub invariant-loop-other : goal.invariant-loop-other
invariant-loop-other l =
    list_any (λ (q : Origin). is_around q.prefix l.origin.prefix) l.origins ≡ list_any (λ (q : Origin). is_around q.prefix l.origin.prefix) (drop l.other-index l.origins)
