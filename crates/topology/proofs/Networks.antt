-- A topology that breaks no rule is a network.
use Rattle.std.proofs.Common.{◌≡◌, ℕ, ◌+◌, ◌≤◌, List, [], ◌∷◌, ◌++◌, length, map, Ok, refl, sym, ap, ap₂, ◌∙◌, map-id, length-append}
use Rattle.std.specs.Prelude.{IsTrue, nat_le}
use Rattle.std.specs.List.{AllByRecursion}
use Rattle.std.proofs.lemmas.List.{map-append, length-map}
use Rattle.std.proofs.lemmas.Bool.{leb-true}
use Rattle.list_law.proofs.Each.{AllByRecursion-append}
use Rattle.net_base.specs.NameRule.{is_name}
use Rattle.net_base.specs.Network.{PlainNet, IsNet}
use Rattle.topology.specs.declared.parts.Kind.{Kind}
use Rattle.topology.specs.declared.fault.TopoFault.TheVariants.{AsRange, BadName, TooMany}
use Rattle.net_base.specs.Steps.{◌>>=◌, each_from, unless}
use Rattle.net_base.specs.declared.net.Site.{Site}
use Rattle.topology.specs.declared.parts.Kind.TheVariants as kind
use Rattle.topology.specs.declared.sites.Number.TheVariants as which
use Rattle.topology.specs.Shape.{each, Entry, Ends, Topology, IsIdentifier}
use Rattle.topology.proofs.EntryFaults.{names_keep, numbers_keep}
use Rattle.net_base.proofs.StepLemmas.{bind_ok, unless_ok, ok_same}
use Rattle.topology.proofs.Results.{each_from-view, each_from-all}
use Rattle.topology.proofs.LinkRules.{links_hold}
use Rattle.topology.specs.Rules.{named, site_of, counted, names_differ, numbers_differ, names_of, links_of, network_of, judged, is_lawful_as, number}

-- ---- what is kept of an entry

abbrev site_entry : Site → Entry
site_entry s = record { name = s.name; asn = s.asn; id = s.id }

site_of_entry : (k : Kind) (e : Entry) (s : Site) → site_of k e ≡ Ok s → (site_entry s ≡ e) × IsTrue (is_lawful_as k s.asn)
unfolding site_of
site_of_entry k e s h =
    let t : Site = record { name = e.name; asn = e.asn; id = e.id } in
    let p = bind_ok (unless (AsRange e.name) (is_lawful_as k e.asn)) (λ _. Ok t) s h in
    rw (← ok_same t s p.2) (refl, unless_ok _ _ _ p.1)

pub each_site : (k : Kind) (es : List Entry) (ss : List Site) → each (site_of k) es ≡ Ok ss → (map site_entry ss ≡ es) × AllByRecursion (λ s. IsTrue (is_lawful_as k s.asn)) ss
unfolding each
each_site k es ss h = (
  each_from-view (λ e. e) site_entry (λ _. site_of k) (λ _ e s g. (site_of_entry k e s g).0) 1 es ss h ∙ map-id es,
  each_from-all (λ s. IsTrue (is_lawful_as k s.asn)) (λ _. site_of k) (λ _ e s g. (site_of_entry k e s g).1) 1 es ss h,
)

map_entry : {B : Type 0} (key : Entry → B) (ss : List Site) → map (λ s. key (site_entry s)) ss ≡ map key (map site_entry ss)
map_entry key [] = refl
map_entry key (s ∷ ss) = ap (λ ks. key (site_entry s) ∷ ks) (map_entry key ss)

all_entry : (P : Entry → Type 0) (ss : List Site) → AllByRecursion P (map site_entry ss) → AllByRecursion (λ s. P (site_entry s)) ss
all_entry P [] a = tt
all_entry P (s ∷ ss) a = (a.0, all_entry P ss a.1)

named_same : (k : Kind) (place : ℕ) (e y : Entry) → named k place e ≡ Ok y → y ≡ e
unfolding named
named_same k place e y h = let p = bind_ok (unless (BadName k place) (is_name e.name)) (λ _. Ok e) y h in sym (ok_same e y p.2)

pub each_named : (k : Kind) (es ys : List Entry) → each_from (named k) 1 es ≡ Ok ys → ys ≡ es
each_named k es ys h = sym (map-id ys) ∙ each_from-view (λ e. e) (λ e. e) (named k) (named_same k) 1 es ys h ∙ map-id es

pub counted_holds : (t : Topology) → counted t ≡ Ok tt → (length t.routers ≤ 512) × (length t.peers ≤ 256) × (length t.links ≤ 8192)
unfolding counted
counted_holds t h =
    let p =
    bind_ok (unless (TooMany kind.Routers (length t.routers)) (nat_le (length t.routers) 512))
    (λ _. unless (TooMany kind.Peers (length t.peers)) (nat_le (length t.peers) 256) >>= (λ _. unless (TooMany kind.Links (length t.links)) (nat_le (length t.links) 8192))) tt h in
    let q = bind_ok (unless (TooMany kind.Peers (length t.peers)) (nat_le (length t.peers) 256)) (λ _. unless (TooMany kind.Links (length t.links)) (nat_le (length t.links) 8192)) tt p.2 in
    (leb-true _ _ (unless_ok _ _ _ p.1), leb-true _ _ (unless_ok _ _ _ q.1), leb-true _ _ (unless_ok _ _ _ q.2))

-- ---- the rules that come before those of links are kept

module _ (routers peers : List Entry) (ends : List Ends) (router_sites peer_sites : List Site)
    (names : names_differ (routers ++ peers) ≡ Ok tt)
    (lawful_routers : each (site_of kind.Routers) routers ≡ Ok router_sites)
    (lawful_peers : each (site_of kind.Peers) peers ≡ Ok peer_sites)
    (asns : numbers_differ which.As (routers ++ peers) ≡ Ok tt)
    (ids : numbers_differ which.Id (routers ++ peers) ≡ Ok tt) where
  -- those of links decide
  pub network_of-links : network_of routers peers ends
      ≡ (links_of (names_of (routers ++ peers)) (length routers) ends >>= (λ links. Ok (record { routers = router_sites; peers = peer_sites; links = links })))
  unfolding network_of
  network_of-links = rw (names, lawful_routers, lawful_peers, asns, ids) refl

module _ (t : Topology) (routers peers : List Entry) (router_sites peer_sites : List Site)
    (few : counted t ≡ Ok tt)
    (named_routers : each_from (named kind.Routers) 1 t.routers ≡ Ok routers)
    (named_peers : each_from (named kind.Peers) 1 t.peers ≡ Ok peers)
    (names : names_differ (routers ++ peers) ≡ Ok tt)
    (lawful_routers : each (site_of kind.Routers) routers ≡ Ok router_sites)
    (lawful_peers : each (site_of kind.Peers) peers ≡ Ok peer_sites)
    (asns : numbers_differ which.As (routers ++ peers) ≡ Ok tt)
    (ids : numbers_differ which.Id (routers ++ peers) ≡ Ok tt) where
  -- those of links decide
  pub judged-links : judged t ≡ (links_of (names_of (routers ++ peers)) (length routers) t.links >>= (λ links. Ok (record { routers = router_sites; peers = peer_sites; links = links })))
  unfolding judged
  judged-links = rw (few, named_routers, named_peers) (network_of-links routers peers t.links router_sites peer_sites names lawful_routers lawful_peers asns ids)

-- ---- those of links are kept too

-- the steps of a topology that is judged as this network
pub record Judged (t : Topology) (net : PlainNet) : Type 0 where
  pub few : counted t ≡ Ok tt
  pub named_routers : each_from (named kind.Routers) 1 t.routers ≡ Ok t.routers
  pub named_peers : each_from (named kind.Peers) 1 t.peers ≡ Ok t.peers
  pub names : names_differ (t.routers ++ t.peers) ≡ Ok tt
  pub lawful_routers : each (site_of kind.Routers) t.routers ≡ Ok net.routers
  pub lawful_peers : each (site_of kind.Peers) t.peers ≡ Ok net.peers
  pub asns : numbers_differ which.As (t.routers ++ t.peers) ≡ Ok tt
  pub ids : numbers_differ which.Id (t.routers ++ t.peers) ≡ Ok tt
  pub linked : links_of (names_of (t.routers ++ t.peers)) (length t.routers) t.links ≡ Ok net.links

pub judged_steps : (t : Topology) (net : PlainNet) → judged t ≡ Ok net → Judged t net
unfolding judged network_of
judged_steps t net h =
    let a = bind_ok (counted t) _ net h in
    let b = bind_ok (each_from (named kind.Routers) 1 t.routers) _ net a.2 in
    let c = bind_ok (each_from (named kind.Peers) 1 t.peers) _ net b.2 in
    let rs : b.0 ≡ t.routers = each_named kind.Routers t.routers b.0 b.1 in
    let ps : c.0 ≡ t.peers = each_named kind.Peers t.peers c.0 c.1 in
    let all = t.routers ++ t.peers in
    let d = bind_ok (names_differ all) _ net (sym (ap₂ (λ (xs ys : List Entry). network_of xs ys t.links) rs ps) ∙ c.2) in
    let e = bind_ok (each (site_of kind.Routers) t.routers) _ net d.2 in
    let f = bind_ok (each (site_of kind.Peers) t.peers) _ net e.2 in
    let g = bind_ok (numbers_differ which.As all) _ net f.2 in
    let i = bind_ok (numbers_differ which.Id all) _ net g.2 in
    let k = bind_ok (links_of (names_of all) (length t.routers) t.links) _ net i.2 in
    let same = ok_same (record { routers = e.0; peers = f.0; links = k.0 }) net k.2 in
    record {
      few = a.1;
      named_routers = b.1 ∙ ap (λ es. Ok es) rs;
      named_peers = c.1 ∙ ap (λ es. Ok es) ps;
      names = d.1;
      lawful_routers = e.1 ∙ ap (λ (n : PlainNet). Ok n.routers) same;
      lawful_peers = f.1 ∙ ap (λ (n : PlainNet). Ok n.peers) same;
      asns = g.1;
      ids = i.1;
      linked = k.1 ∙ ap (λ (n : PlainNet). Ok n.links) same;
    }

-- so the topology is a network
pub kept_IsNet : (t : Topology) (net : PlainNet) → Judged t net → AllByRecursion (λ e. IsIdentifier e.id) t.routers → AllByRecursion (λ e. IsIdentifier e.id) t.peers → IsNet net
kept_IsNet t net s id_routers id_peers =
    let entries = t.routers ++ t.peers in
    let sites = net.routers ++ net.peers in
    let c = counted_holds t s.few in
    let r = each_site kind.Routers t.routers net.routers s.lawful_routers in
    let p = each_site kind.Peers t.peers net.peers s.lawful_peers in
    let l = links_hold (names_of entries) (length t.routers) t.links net.links s.linked in
    let all : map site_entry sites ≡ entries = map-append site_entry net.routers net.peers ∙ rw (r.0, p.0) refl in
    let count_routers : length net.routers ≡ length t.routers = sym (length-map net.routers site_entry) ∙ ap length r.0 in
    let count_peers : length net.peers ≡ length t.peers = sym (length-map net.peers site_entry) ∙ ap length p.0 in
    let locations : length (names_of entries) ≡ length net.routers + length net.peers =
    length-map entries (λ (e : Entry). e.name) ∙ length-append t.routers t.peers ∙ rw (count_routers, count_peers) refl in
    record {
      routers = rw count_routers c.0;
      peers = rw count_peers c.1;
      count = rw l.2 c.2;
      names = rw (map_entry (λ e. e.name) sites, all) (names_keep entries s.names);
      router_asns = r.1;
      peer_asns = p.1;
      asns = rw (map_entry (number which.As) sites, all) (numbers_keep which.As entries s.asns);
      ids = rw (map_entry (number which.Id) sites, all) (numbers_keep which.Id entries s.ids);
      id_ranges = all_entry (λ e. IsIdentifier e.id) sites (rw all (AllByRecursion-append (λ (e : Entry). IsIdentifier e.id) t.routers t.peers id_routers id_peers));
      links = rw (locations, ← count_routers) at l.0;
      order = l.1;
    }
