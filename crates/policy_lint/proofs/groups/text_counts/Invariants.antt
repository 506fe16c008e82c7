use Rattle.std.proofs.Common.{◌≡◌, ℕ, List, take}
use Rattle.policy_lint.specs.Groups.{count_of, times}
use Rattle.policy_lint.proofs.groups.text_counts.Given as goal

abbrev pub invariant-loop-token : goal.invariant-loop-token
invariant-loop-token l = (q : List ℕ) → count_of l.counts q ≡ times l.bytes (take l.token-index l.tokens) q
