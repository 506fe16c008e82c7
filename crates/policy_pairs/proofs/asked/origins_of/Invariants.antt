use Rattle.std.proofs.Common.{◌≡◌, drop}
use Rattle.std.specs.Option.{option_or}
use Rattle.indexmap.specs.IndexMap.{get}
use Rattle.net_base.specs.Prefixes.{PlainPrefix, same_prefix}
use Rattle.policy_base.specs.Governing.{originated_at}
use Rattle.policy_pairs.proofs.asked.origins_of.Given as goal

abbrev pub invariant-loop-item : goal.invariant-loop-item
invariant-loop-item l =
    (p : PlainPrefix) → originated_at l.items p ≡ option_or (get same_prefix l.origins p) (originated_at (drop l.item-index l.items) p)
