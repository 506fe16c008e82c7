-- A network without a location keeps the rules of networks.
use Rattle.std.proofs.Common.{◌≡◌, ℕ, List, [], arith, rules}
use Rattle.std.specs.List.{IsDistinct}
use Rattle.net_base.specs.declared.net.Site.{Site}
use Rattle.net_base.specs.Network.{IsNet}

empty_is_net : IsNet (record { routers = []; peers = []; links = [] })
unfolding IsDistinct
empty_is_net = record {
  routers = omega arith;
  peers = omega arith;
  count = omega arith;
  names = search rules;
  router_asns = search rules;
  peer_asns = search rules;
  asns = search rules;
  ids = search rules;
  id_ranges = search rules;
  links = search rules;
  order = search rules;
}

pub is_empty : (routers peers : List Site) (links : List (ℕ × ℕ)) → routers ≡ [] → peers ≡ [] → links ≡ []
    → IsNet (record { routers = routers; peers = peers; links = links })
is_empty routers peers links a b c = rw (a, b, c) empty_is_net
