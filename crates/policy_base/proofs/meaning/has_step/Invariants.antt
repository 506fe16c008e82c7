use Rattle.std.proofs.Common.{◌≡◌, ◌&&◌, drop, ◌-◌}
use Rattle.net_base.specs.Sets.{holds}
use Rattle.policy_base.specs.Meaning.{some_step}
use Rattle.policy_base.proofs.meaning.has_step.Given as goal

abbrev pub invariant-loop-i : goal.invariant-loop-i
invariant-loop-i l =
    some_step (λ k m. holds l.from k && holds l.to m) l.path ≡ some_step (λ k m. holds l.from k && holds l.to m) (drop (l.i - 1) l.path)
