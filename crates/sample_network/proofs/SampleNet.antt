-- The sample is a network.
use Rattle.std.proofs.Common.{◌≡◌, ℕ, ◌+◌, ◌≤◌, ◌<◌, List, ◌++◌, map, length, arith, length-append}
use Rattle.std.proofs.lemmas.List.{length-map}
use Rattle.list_law.proofs.Each.{AllByRecursion-weaker}
use Rattle.net_base.specs.Locations.{numbers_below}
use Rattle.net_base.specs.Network.{IsLink, IsNet}
use Rattle.net_base.specs.declared.net.Site.{Site}
use Rattle.net_base.proofs.NumbersBelow.{length-numbers_below}
use Rattle.sample_network.specs.Network.{leaf, sample_net, spine}
use Rattle.sample_network.proofs.SampleSites.{all_ids, asns_apart, ids_apart, names_apart, peer_numbers, router_numbers}
use Rattle.sample_network.proofs.SampleLinks.{sample_ascends, sample_count, sample_ends}

pub router_count : (n : ℕ) → length (map leaf (numbers_below n) ++ map (spine n) (numbers_below 4)) ≡ n + 4
router_count n = omega (arith, length-append (map leaf (numbers_below n)) (map (spine n) (numbers_below 4)), length-map (numbers_below n) leaf, length-numbers_below n)

pub is_net : (n : ℕ) → n ≤ 96 → IsNet (sample_net n)
is_net n few = record {
  routers = omega (arith, router_count n, few);
  peers = omega arith;
  count = omega (arith, sample_count n, few);
  names = names_apart n few;
  router_asns = router_numbers n few;
  peer_asns = peer_numbers;
  asns = asns_apart n few;
  ids = ids_apart n few;
  id_ranges = all_ids n few;
  links =
      AllByRecursion-weaker (λ (l : ℕ × ℕ). (l.0 < l.1) × (l.1 < n + 6) × (l.0 < n + 4)) (IsLink (sample_net n)) (sample_net n).links
      (λ l h. (h.0, omega (arith, h.1, router_count n), omega (arith, h.2, router_count n))) (sample_ends n);
  order = sample_ascends n;
}

-- and so is what has its parts
pub made_net : (n : ℕ) → n ≤ 96 → (routers peers : List Site) (links : List (ℕ × ℕ)) → routers ≡ (sample_net n).routers → peers ≡ (sample_net n).peers → links ≡ (sample_net n).links
    → IsNet (record { routers = routers; peers = peers; links = links })
made_net n few routers peers links a b c = rw (a, b, c) (is_net n few)
