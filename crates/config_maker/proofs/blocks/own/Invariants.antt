use Rattle.std.proofs.Common.{◌≡◌, map, take}
use Rattle.config_maker.specs.Writing.{own_line}
use Rattle.config_maker.proofs.blocks.own.Given as goal

abbrev pub invariant-loop-own : goal.invariant-loop-own
invariant-loop-own l = l.lines ≡ map own_line (take l.own-index l.own-items)
