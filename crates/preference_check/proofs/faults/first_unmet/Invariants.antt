use Rattle.std.proofs.Common.{ℕ, ◌<◌}
use Rattle.graph_base.specs.Preferences.{number_in}
use Rattle.preference_check.specs.Offers.{KeepsOffers}
use Rattle.preference_check.proofs.faults.first_unmet.Given as goal

abbrev pub invariant-loop-other : goal.invariant-loop-other
invariant-loop-other l = (q : ℕ) → q < l.other → KeepsOffers l.net l.graph (number_in l.numbers) l.offers l.node q
