use Rattle.std.proofs.Common.{◌≡◌, drop}
use Rattle.compare_report.specs.Groups.{seen, with_old, old_origins}
use Rattle.compare_report.proofs.origins.old_origins.Given as goal

abbrev pub invariant-loop-pair : goal.invariant-loop-pair
invariant-loop-pair l = with_old l.set (seen (drop l.pair-index l.group)) ≡ old_origins (seen l.group)
