use Rattle.std.proofs.Common.{◌≡◌, drop}
use Rattle.std.specs.Prelude.{◌||◌, is_some}
use Rattle.indexmap.specs.IndexSet.{contains}
use Rattle.net_base.specs.Prefixes.{PlainPrefix, same_prefix}
use Rattle.policy_base.specs.Governing.{originated_at}
use Rattle.least_prefixes.proofs.asked.add_originated.Given as goal

abbrev pub invariant-loop-origin : goal.invariant-loop-origin
invariant-loop-origin l =
    (p : PlainPrefix)
    → (contains same_prefix l.initial.originated p || is_some (originated_at l.origins p))
    ≡ (contains same_prefix l.originated p || is_some (originated_at (drop l.origin-index l.origins) p))
