-- The text of a network spells that network.
use Rattle.std.proofs.Common.{◌≡◌, ℕ, ◌+◌, ◌<◌, ◌^◌, List, [], ◌∷◌, length, Some, Ok, refl, arith, length-append}
use Rattle.std.specs.Prelude.{◌≢◌, IsTrue}
use Rattle.std.specs.List.{AllByRecursion}
use Rattle.json_values.specs.Json.{json_of}
use Rattle.json_values.proofs.ReadAgain.{json_of-line}
use Rattle.list_law.proofs.Each.{AllByRecursion-append, AllByRecursion-append_parts, AllByRecursion-weaker, AllByRecursion_at}
use Rattle.list_law.proofs.Items.{slice_get_inside}
use Rattle.net_base.specs.NameRule.{is_name}
use Rattle.net_base.specs.Network.{PlainNet, IsNet, IsLink, sites}
use Rattle.net_base.specs.Numbers.{is_router_as, is_peer_as}
use Rattle.net_base.proofs.NumberRanges.{router_as-range, peer_as-range}
use Rattle.net_base.specs.declared.net.Site.{Site}
use Rattle.topology.specs.Topology.{spelled}
use Rattle.net_text.specs.NetText.{HaveNames, name_at, net_data, net_text}
use Rattle.net_text.proofs.Shaped.{IsWritten, HasEnds, shape_again, plain_net, net_depth}
use Rattle.net_text.proofs.Judged.{judged_again}

abbrev HasId : Site → Type 0
HasId s = (s.id ≢ 0) × (s.id < 2 ^ 32)

abbrev HasAsn : Site → Type 0
HasAsn s = s.asn < 2 ^ 32

all_written : (ss : List Site) → HaveNames ss → AllByRecursion HasAsn ss → AllByRecursion HasId ss → AllByRecursion IsWritten ss
all_written [] names asns ids = tt
all_written (s ∷ ss) names asns ids = (record { name = names.0; asn = asns.0; id = ids.0 }, all_written ss names.1 asns.1 ids.1)

named_at : (net : PlainNet) (l : ℕ) → HaveNames (sites net) → l < length net.routers + length net.peers → IsTrue (is_name (name_at net l))
named_at net l names low =
    let s = slice_get_inside (sites net) l (omega (arith, low, length-append net.routers net.peers)) in
    let name = AllByRecursion_at (λ (s : Site). IsTrue (is_name s.name)) (sites net) l s.0 names s.1 in
    rw s.1 name

all_ends : (net : PlainNet) (links : List (ℕ × ℕ)) → HaveNames (sites net) → AllByRecursion (IsLink net) links → AllByRecursion (HasEnds net) links
all_ends net [] names are = tt
all_ends net (l ∷ ls) names are = ((named_at net l.0 names (omega (arith, are.0.0, are.0.1)), named_at net l.1 names are.0.1), all_ends net ls names are.1)

spelled_there : (bytes : List ℕ) (net : PlainNet) → json_of bytes ≡ Some (net_data net) → AllByRecursion IsWritten net.routers → AllByRecursion IsWritten net.peers
    → IsNet net → HaveNames net.routers → HaveNames net.peers → spelled bytes ≡ Ok net
unfolding spelled
spelled_there bytes net value routers peers is router_names peer_names = rw (value, shape_again net routers peers, judged_again net is router_names peer_names) refl

pub read_again : (net : PlainNet) → IsNet net → HaveNames net.routers → HaveNames net.peers → spelled (net_text net) ≡ Ok net
read_again net is routers peers =
    let ids = AllByRecursion-append_parts HasId net.routers net.peers is.id_ranges in
    let router_asns = AllByRecursion-weaker (λ (s : Site). IsTrue (is_router_as s.asn)) HasAsn net.routers (λ s is_as. (router_as-range s.asn is_as).1) is.router_asns in
    let peer_asns = AllByRecursion-weaker (λ (s : Site). IsTrue (is_peer_as s.asn)) HasAsn net.peers (λ s is_as. (peer_as-range s.asn is_as).1) is.peer_asns in
    let written_routers = all_written net.routers routers router_asns ids.0 in
    let written_peers = all_written net.peers peers peer_asns ids.1 in
    let ends = all_ends net net.links (AllByRecursion-append (λ (s : Site). IsTrue (is_name s.name)) net.routers net.peers routers peers) is.links in
    spelled_there (net_text net) net (json_of-line (net_data net) (plain_net net written_routers written_peers ends) (net_depth net)) written_routers written_peers is routers peers
