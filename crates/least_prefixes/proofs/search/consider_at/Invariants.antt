use Rattle.std.proofs.Common.{◌≡◌}
use Rattle.policy_base.specs.Policies.{PlainPolicy}
use Rattle.least_prefixes.specs.Least.{AreSeen, Knows, joined_at}
use Rattle.least_prefixes.proofs.search.consider_at.Given as goal

abbrev pub invariant-loop-len : goal.invariant-loop-len
invariant-loop-len l =
    (old new : PlainPolicy) → Knows l.asked old new → AreSeen old new l.initial.seen.keys l.initial.least.items
    → AreSeen old new l.seen.keys l.least.items × (l.least.items ≡ joined_at old new l.initial.least.items l.bits l.len)
