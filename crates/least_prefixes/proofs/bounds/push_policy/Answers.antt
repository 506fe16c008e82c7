use Rattle.std.proofs.Common.{ap, ◌∙◌, ◌||◌}
use Rattle.std.specs.List.{list_any}
use Rattle.policy_base.specs.declared.policy.Statement.{Statement}
use Rattle.least_prefixes.specs.Bounds.{bounds_origin, bounds_pattern, has}
use Rattle.least_prefixes.proofs.Edges.{policy_bounds}
use Rattle.least_prefixes.proofs.bounds.push_policy.Goals as goal

pub returns : goal.returns
returns c = λ x.
    policy_bounds c.args.policy.now x (has c.args.bounds.now.items x) (has c.push_origins.new.bounds.items x) (has c.push_statements.new.bounds.items x)
    (c.in_ok-push_origins.ensures x ∙ ap (λ os. has c.args.bounds.now.items x || bounds_origin os x) c.origins.ensures.origins)
    (c.in_ok-push_statements.ensures x
    ∙ ap (λ ss. has c.push_origins.new.bounds.items x || list_any (λ (s : Statement). bounds_pattern s.patterns x) ss) c.statements.ensures.statements)
