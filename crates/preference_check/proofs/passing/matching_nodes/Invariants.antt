use Rattle.std.proofs.Common.{◌≡◌, ℕ, IsTrue, length, vec_len}
use Rattle.reach_prune.specs.Searches.{is_marked}
use Rattle.graph_base.specs.Preferences.{number_in}
use Rattle.preference_check.specs.Offers.{KeepsOffers}
use Rattle.preference_check.proofs.Matching.{AreRuns}
use Rattle.preference_check.proofs.passing.matching_nodes.Given as goal

abbrev pub invariant-routers : goal.invariant-routers
invariant-routers l = record {
  size : length l.marks.items ≡ length l.graph.nodes;
  nodes : AreRuns l.graph l.numbers l.routers.items;
  marks : (m n : ℕ) → IsTrue (is_marked l.marks.items m) → KeepsOffers l.net l.graph (number_in l.numbers) l.offers m n;
}

abbrev pub decreases-routers : goal.decreases-routers
decreases-routers l = vec_len l.routers
