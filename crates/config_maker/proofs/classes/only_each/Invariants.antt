use Rattle.std.proofs.Common.{◌≡◌, map, take}
use Rattle.net_base.specs.Prefixes.{only}
use Rattle.config_maker.proofs.classes.only_each.Given as goal

abbrev pub invariant-loop-prefix : goal.invariant-loop-prefix
invariant-loop-prefix l = l.patterns ≡ map only (take l.prefix-index l.prefixes)
