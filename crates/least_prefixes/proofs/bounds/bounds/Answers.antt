use Rattle.std.proofs.Common.{ap, ◌∙◌, ◌||◌, ◌==◌, ◌++◌, ◌∷◌, [], false, refl}
use Rattle.std.proofs.lemmas.List.Filters.{dedup_is}
use Rattle.list_law.proofs.Truth.{or_failed}
use Rattle.policy_base.specs.Policies.{policy_of}
use Rattle.least_prefixes.specs.Bounds.{has, is_bound}
use Rattle.least_prefixes.proofs.Edges.{settled_order, settled_same}
use Rattle.least_prefixes.proofs.bounds.bounds.Goals as goal

pub returns-clause-order : goal.returns-clause-order
returns-clause-order c = settled_order c.sort_unstable.new.self.items c.dedup.new.self.items c.sort_unstable.ensures.sorted (dedup_is _ _ _ c.dedup.ensures.filtered)

pub returns-clause-same : goal.returns-clause-same
returns-clause-same c = λ x.
    settled_same c.push_policy-2.new.bounds.items c.sort_unstable.new.self.items c.dedup.new.self.items c.sort_unstable.ensures.permutation (dedup_is _ _ _ c.dedup.ensures.filtered) x
    ∙ c.in_ok-push_policy-2.ensures x
    ∙ ap (λ b. b || is_bound (policy_of c.args.new.now) x)
    (c.in_ok-push_policy.ensures x
    ∙ ap (λ b. b || is_bound (policy_of c.args.old.now) x)
    (ap (λ ys. has ys x) c.in_ok-push.ensures.items ∙ ap (λ ys. has (ys ++ 0 ∷ []) x) c.new-bounds.ensures.items ∙ or_failed (0 == x) false refl))
