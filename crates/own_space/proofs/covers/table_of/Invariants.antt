use Rattle.std.proofs.Common.{map, take}
use Rattle.net_base.specs.Prefixes.{only}
use Rattle.policy_base.specs.declared.policy.Origin.{Origin}
use Rattle.lint_cover.specs.Tables.{Holds}
use Rattle.own_space.proofs.covers.table_of.Given as goal

abbrev pub invariant-loop-origin : goal.invariant-loop-origin
invariant-loop-origin l = Holds l.table (map (λ (o : Origin). only o.prefix) (take l.origin-index l.origins))
