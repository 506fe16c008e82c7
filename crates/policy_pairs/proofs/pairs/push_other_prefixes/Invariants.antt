use Rattle.std.proofs.Common.{◌≡◌, ◌++◌, drop}
use Rattle.std.specs.Prelude.{filter, is_none}
use Rattle.net_base.specs.Prefixes.{PlainPrefix}
use Rattle.policy_base.specs.Policies.{PlainPolicy}
use Rattle.policy_base.specs.Governing.{originated_at}
use Rattle.policy_pairs.specs.Groups.{Tells}
use Rattle.policy_pairs.specs.Pairs.{prefixes_of}
use Rattle.policy_pairs.proofs.pairs.push_other_prefixes.Given as goal

abbrev pub invariant-loop-item : goal.invariant-loop-item
invariant-loop-item l =
    (policy : PlainPolicy) → Tells l.other policy
    → l.prefixes.items ++ filter (λ (p : PlainPrefix). is_none (originated_at policy.origins p)) (prefixes_of (drop l.item-index l.items))
    ≡ l.initial.prefixes.items ++ filter (λ (p : PlainPrefix). is_none (originated_at policy.origins p)) (prefixes_of l.items)
