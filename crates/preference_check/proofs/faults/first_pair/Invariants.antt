use Rattle.std.proofs.Common.{ℕ, ◌<◌}
use Rattle.graph_base.specs.Preferences.{number_in}
use Rattle.preference_check.specs.Offers.{KeepsOffers}
use Rattle.preference_check.proofs.faults.first_pair.Given as goal

abbrev pub invariant-loop-first : goal.invariant-loop-first
invariant-loop-first l = (p q : ℕ) → p < l.first → KeepsOffers l.net l.graph (number_in l.numbers) l.offers p q
