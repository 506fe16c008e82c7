use Rattle.std.proofs.Common.{◌≡◌, ◌&&◌, ℕ, length, take, eqb}
use Rattle.std.specs.List.{list_any}
use Rattle.preference_check.specs.Offers.{is_good, is_offered, offer_by_step, offers_of}
use Rattle.preference_check.proofs.offers.offers_by_steps.Given as goal

abbrev pub invariant-loop-step : goal.invariant-loop-step
invariant-loop-step l = record {
  size : length l.offers.items ≡ length l.graph.nodes;
  offers : (n at cost : ℕ)
      → is_offered (offers_of l.offers.items n) at cost
      ≡ list_any (λ (s : ℕ × ℕ). eqb s.0 n && is_good (offer_by_step l.graph l.numbers l.towards s.1) at cost) (take l.step-index l.step-items);
}
