use Rattle.std.proofs.Common.{◌≡◌, drop}
use Rattle.std.specs.Prelude.{◌||◌, is_some}
use Rattle.indexmap.specs.IndexSet.{contains}
use Rattle.net_base.specs.Prefixes.{PlainPrefix, same_prefix}
use Rattle.policy_base.specs.Governing.{originated_at}
use Rattle.policy_base.proofs.case_list.prefixes_of.Given as goal

abbrev pub invariant-loop-origin : goal.invariant-loop-origin
invariant-loop-origin l =
    (p : PlainPrefix) → is_some (originated_at l.origins p) ≡ (contains same_prefix l.prefixes p || is_some (originated_at (drop l.origin-index l.origins) p))
