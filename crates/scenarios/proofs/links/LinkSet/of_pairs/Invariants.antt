use Rattle.std.proofs.Common.{◌≡◌, ℕ, take, IsTrue}
use Rattle.std.specs.List.{list_any}
use Rattle.net_base.specs.Network.{joins, linked}
use Rattle.scenarios.specs.Links.{has_link}
use Rattle.scenarios.proofs.links.LinkSet.of_pairs.Given as goal

abbrev pub invariant-loop-pair : goal.invariant-loop-pair
invariant-loop-pair l = (a b : ℕ) → IsTrue (linked l.net a b) → has_link l.net l.set a b ≡ list_any (joins a b) (take l.pair-index l.pairs)
