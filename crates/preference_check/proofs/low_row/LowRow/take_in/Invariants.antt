use Rattle.std.proofs.Common.{◌≡◌, ◌||◌, ℕ, take}
use Rattle.preference_check.specs.Offers.{is_offered}
use Rattle.preference_check.specs.Rows.{has_upto}
use Rattle.preference_check.proofs.low_row.LowRow.take_in.Given as goal

abbrev pub invariant-loop-offer : goal.invariant-loop-offer
invariant-loop-offer l = (p n : ℕ) → has_upto l.self.least.items p n ≡ (has_upto l.initial.self.least.items p n || is_offered (take l.offer-index l.offers) p n)
