use Rattle.std.proofs.Common.{◌≡◌, [], drop}
use Rattle.policy_base.specs.Policies.{PlainPolicy}
use Rattle.least_prefixes.specs.Least.{AreSeen, Knows, joined_over}
use Rattle.least_prefixes.proofs.search.least_at.Given as goal

abbrev pub invariant-loop-bound : goal.invariant-loop-bound
invariant-loop-bound l =
    (old new : PlainPolicy) → Knows l.asked old new
    → AreSeen old new l.seen.keys l.least.items × (joined_over old new [] l.bounds ≡ joined_over old new l.least.items (drop l.bound-index l.bounds))
