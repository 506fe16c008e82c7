use Rattle.std.proofs.Common.{◌≡◌, drop}
use Rattle.policy_base.specs.Governing.{originated_at}
use Rattle.policy_base.proofs.governed.origins_of.Given as goal

abbrev pub invariant-loop-origin : goal.invariant-loop-origin
invariant-loop-origin l = originated_at l.origin-items l.prefix ≡ originated_at (drop l.origin-index l.origin-items) l.prefix
