use Rattle.std.proofs.Common.{◌≡◌, take}
use Rattle.std.specs.List.{filter_map}
use Rattle.reach_prune.specs.Numbers.{number_in}
use Rattle.reach_prune.proofs.trimming.starts_kept.Given as goal

abbrev pub invariant-loop-start : goal.invariant-loop-start
invariant-loop-start l = l.list ≡ filter_map (number_in l.numbers) (take l.start-index l.starts)
