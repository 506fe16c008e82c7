use Rattle.std.proofs.Common.{◌≡◌, drop}
use Rattle.compare_report.specs.Groups.{seen, with_new, new_origins}
use Rattle.compare_report.proofs.origins.new_origins.Given as goal

abbrev pub invariant-loop-pair : goal.invariant-loop-pair
invariant-loop-pair l = with_new l.set (seen (drop l.pair-index l.group)) ≡ new_origins (seen l.group)
