use Rattle.std.proofs.Common.{◌≡◌, ◌+◌, ◌++◌, drop}
use Rattle.config_maker.specs.Hops.{announced_from}
use Rattle.config_maker.proofs.gather.all_announced.Given as goal

abbrev pub invariant-loop-place : goal.invariant-loop-place
invariant-loop-place l = l.all.items ++ announced_from (l.place + 1) (drop l.place l.evidence) ≡ announced_from 1 l.evidence
