-- How deep the expressions of a policy are.
use Rattle.std.specs.Prelude.{ℕ, ◌+◌, ◌≤◌, max}
use Rattle.std.specs.List.{AllByRecursion}
use Rattle.policy_base.specs.Policies.{Ranking, call, calls, prefer, either, both, negated, PlainStatement, PlainPolicy}

-- The depth of an expression: a call has depth 1, and an operator stands one above the deeper of its sides.
abbrev pub depth : Ranking → ℕ
depth (call c) = 1
depth (calls cs) = 1
depth (prefer a b) = 1 + max (depth a) (depth b)
depth (either a b) = 1 + max (depth a) (depth b)
depth (both a b) = 1 + max (depth a) (depth b)
depth (negated a) = 1 + depth a

-- no expression of the policy is deeper than this
abbrev pub IsAtMostDeep : ℕ → PlainPolicy → Type 0
IsAtMostDeep most policy = AllByRecursion (λ (s : PlainStatement). depth s.ranked ≤ most) policy.statements
