use Rattle.preference_check.proofs.JustOffers.{AreLevel}
use Rattle.preference_check.proofs.low_row.LowRow.has_just.Given as goal

abbrev pub invariant-loop-i : goal.invariant-loop-i
invariant-loop-i l = AreLevel l.self.least.items l.self.places.items l.offers l.i
