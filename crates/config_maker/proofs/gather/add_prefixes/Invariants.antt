use Rattle.std.proofs.Common.{◌≡◌, ◌++◌, map, take}
use Rattle.config_maker.specs.Hops.{announced_of}
use Rattle.config_maker.proofs.gather.add_prefixes.Given as goal

abbrev pub invariant-loop-prefix : goal.invariant-loop-prefix
invariant-loop-prefix l = l.all.items ≡ l.initial.all.items ++ map (announced_of l.class l.at l.tag) (take l.prefix-index l.prefixes)
