use Rattle.std.proofs.Common.{◌≡◌, ◌++◌, take, flat_map}
use Rattle.config_maker.specs.Hops.{announced_at}
use Rattle.config_maker.proofs.gather.add_announced.Given as goal

abbrev pub invariant-loop-start : goal.invariant-loop-start
invariant-loop-start l =
    l.all.items ≡ l.initial.all.items ++ flat_map (announced_at l.class l.prefixes l.graph l.case.tags) (take l.start-index l.start-items)
