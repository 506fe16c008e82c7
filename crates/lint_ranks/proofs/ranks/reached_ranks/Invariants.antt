use Rattle.std.proofs.Common.{◌≡◌, ◌+◌, length}
use Rattle.policy_base.specs.declared.limits.TheConstants.{ALTERNATIVES}
use Rattle.policy_base.specs.Policies.{policy_of}
use Rattle.lint_ranks.proofs.Marked.{AreReachedTo}
use Rattle.lint_ranks.proofs.ranks.reached_ranks.Given as goal

abbrev pub invariant-loop-place : goal.invariant-loop-place
invariant-loop-place l = record {
  rows : l.ranks.count ≡ length l.policy.statements + 1;
  bits : l.ranks.bits ≡ ALTERNATIVES + 1;
  reached : AreReachedTo l.net (policy_of l.policy) l.place l.ranks;
}
