use Rattle.preference_check.specs.Floods.{flood_left}
use Rattle.preference_check.proofs.Spreading.{IsSpreading}
use Rattle.preference_check.proofs.flood.Flood.spread.Given as goal

abbrev pub invariant-spread : goal.invariant-spread
invariant-spread l = IsSpreading l.lists l.number l.from l.fn.self l.self

abbrev pub decreases-spread : goal.decreases-spread
decreases-spread l = flood_left l.self
