use Rattle.std.proofs.Common.{◌≡◌}
use Rattle.indexmap.specs.IndexMap.{get}
use Rattle.policy_base.specs.Fronts.{same_front, least_number}
use Rattle.policy_base.proofs.fronts.least_under.Given as goal

abbrev pub invariant-loop-len : goal.invariant-loop-len
invariant-loop-len l = l.first ≡ least_number (get same_front l.numbers) l.prefix l.len
