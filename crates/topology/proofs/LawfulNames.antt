-- The names of a network that is read are lawful.
use Rattle.std.proofs.Common.{◌≡◌, ℕ, List, [], ◌∷◌, map, Ok, sym, subst}
use Rattle.std.specs.Prelude.{IsTrue}
use Rattle.std.specs.List.{AllByRecursion}
use Rattle.list_law.proofs.Each.{AllByRecursion-append}
use Rattle.json_values.proofs.TextLaws.{says_read}
use Rattle.net_base.specs.NameRule.{is_name}
use Rattle.net_base.specs.Network.{PlainNet, sites}
use Rattle.net_base.specs.Steps.{each_from}
use Rattle.net_base.specs.declared.net.Site.{Site}
use Rattle.topology.specs.declared.parts.Kind.{Kind}
use Rattle.topology.specs.declared.parts.Kind.TheVariants as kind
use Rattle.topology.specs.declared.fault.TopoFault.TheVariants.{NotJson}
use Rattle.topology.specs.Rules.{named, site_of, judged}
use Rattle.topology.specs.Shape.{each, Entry, Topology, shape_of}
use Rattle.topology.specs.Topology.{spelled}
use Rattle.topology.proofs.Networks.{each_site, judged_steps}
use Rattle.topology.proofs.EntryFaults.{all_named}

abbrev HasName : Entry → Type 0
HasName e = IsTrue (is_name e.name)

abbrev IsNamed : Site → Type 0
IsNamed s = IsTrue (is_name s.name)

of_entries : (ss : List Site) → AllByRecursion HasName (map (λ (s : Site). let e : Entry = record { name = s.name; asn = s.asn; id = s.id } in e) ss) → AllByRecursion IsNamed ss
of_entries [] all = tt
of_entries (s ∷ ss) all = (all.0, of_entries ss all.1)

-- the sites of entries with names
sites_named : (k : Kind) (es : List Entry) (ss : List Site) → each_from (named k) 1 es ≡ Ok es → each (site_of k) es ≡ Ok ss → AllByRecursion IsNamed ss
sites_named k es ss all lawful = of_entries ss (subst (AllByRecursion HasName) (sym (each_site k es ss lawful).0) (all_named k 1 es es all))

judged_named : (t : Topology) (net : PlainNet) → judged t ≡ Ok net → AllByRecursion IsNamed (sites net)
judged_named t net h =
    let s = judged_steps t net h in
    AllByRecursion-append IsNamed net.routers net.peers (sites_named kind.Routers t.routers net.routers s.named_routers s.lawful_routers)
    (sites_named kind.Peers t.peers net.peers s.named_peers s.lawful_peers)

-- each name is lawful
pub names_read : (bytes : List ℕ) (net : PlainNet) → spelled bytes ≡ Ok net → AllByRecursion (λ (s : Site). IsTrue (is_name s.name)) (sites net)
unfolding spelled
names_read bytes net h = let r = says_read NotJson shape_of judged bytes net h in judged_named r.0 net r.2
