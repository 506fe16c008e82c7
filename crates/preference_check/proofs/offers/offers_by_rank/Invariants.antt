use Rattle.std.proofs.Common.{◌≡◌, ◌&&◌, ℕ, length, ltb}
use Rattle.preference_check.specs.Offers.{is_good, is_offered, offer_by_rank, offers_of}
use Rattle.preference_check.proofs.offers.offers_by_rank.Given as goal

abbrev pub invariant-loop-node : goal.invariant-loop-node
invariant-loop-node l = record {
  size : length l.offers.items ≡ length l.graph.nodes;
  offers : (n at cost : ℕ) → is_offered (offers_of l.offers.items n) at cost ≡ (ltb n l.node && is_good (offer_by_rank l.graph l.claimed n) at cost);
}
