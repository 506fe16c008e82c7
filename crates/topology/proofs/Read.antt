-- What a text that is read says.
use Rattle.std.proofs.Common.{◌≡◌, ℕ, ◌⊎◌, inl, inr, List, [], ◌∷◌, ◌++◌, length, map, None, Some, Ok, Result, Bool, true, refl, sym, ap, ap₂, subst, ◌∙◌, arith}
use Rattle.std.specs.Prelude.{◌==◌, slice_get, option_and_then, IsTrue, codes, position, if◌then◌else◌}
use Rattle.std.specs.List.{AllByRecursion}
use Rattle.std.specs.Str.{bytes_eq}
use Rattle.std.proofs.lemmas.Bool.{eqb-true}
use Rattle.std.proofs.lemmas.List.{map-append}
use Rattle.std.proofs.lemmas.Slice.Eq.{bytes_eq-Decides}
use Rattle.list_law.proofs.Options.{option_and_then_parts, unless_parts}
use Rattle.list_law.proofs.Positions.{position-map, find-position, list_any-at_position}
use Rattle.list_law.proofs.Tests.{find-any, find_parts}
use Rattle.serde_json.specs.Data.{Data, number, string, array, Items, no_items, item, unsigned}
use Rattle.serde_json.specs.Events.{members_len}
use Rattle.serde_json.specs.Find.{get, as_object, as_str}
use Rattle.json_values.specs.Json.{list_at, text_at, number_at}
use Rattle.json_values.proofs.TextLaws.{says_read}
use Rattle.net_base.specs.declared.net.Site.{Site}
use Rattle.net_base.specs.Addresses.{address_of}
use Rattle.net_base.specs.NameRule.{is_name}
use Rattle.net_base.specs.Network.{PlainNet, sites}
use Rattle.net_base.specs.Steps.{or_fault, unless, each_from}
use Rattle.net_base.proofs.StepLemmas.{bind_ok, or_fault_ok, unless_ok, ok_same}
use Rattle.topology.specs.declared.fault.TopoFault.{TopoFault}
use Rattle.topology.specs.declared.fault.TopoFault.TheVariants.{NotJson, Shape}
use Rattle.topology.specs.declared.parts.Field.TheVariants as field
use Rattle.topology.specs.declared.parts.Kind.TheVariants as kind
use Rattle.topology.specs.Rules.{ascending, named, names_of, joined, links_differ, ends_differ, routers_linked, links_of, judged}
use Rattle.topology.specs.Shape.{Entry, Ends, Topology, each, entry_of, ends_of, identifier_of, shape_of}
use Rattle.topology.specs.Topology.{spelled}
use Rattle.topology.proofs.EntryFaults.{all_named}
use Rattle.topology.proofs.LinkNames.{Joins, AllJoin, all_join}
use Rattle.topology.proofs.Networks.{each_site, judged_steps}
use Rattle.topology.proofs.TextLaws.{net_read}
use Rattle.topology.specs.Meaning.{HasKeys, EachSays, HasArray, SaysSite, SaysEnds, SaysLink, IsTopologyOf}
use Rattle.topology.proofs.MeaningParts.{is_object, text_there, number_there, items_there, two_there, each_says}

-- ---- routers and peers

-- the value says what an entry has
pub record SaysEntry (d : Data) (e : Entry) : Type 0 where
  pub keys : HasKeys 3 d
  pub name : get (codes "name") d ≡ Some (string e.name)
  pub asn : get (codes "asn") d ≡ Some (number (unsigned e.asn))
  pub address : List ℕ
  pub id : get (codes "id") d ≡ Some (string address)
  pub spelled : address_of address ≡ Some e.id

address_there : (text : List ℕ) (n : ℕ) → identifier_of text ≡ Some n → address_of text ≡ Some n
address_there text n h =
    let p = option_and_then_parts (λ m. if m == 0 then None else Some m) (address_of text) n h in
    p.1 ∙ (unless_parts (p.0 == 0) (Some p.0) n p.2).1

entry_says : (d : Data) (e : Entry) → entry_of d ≡ Ok e → SaysEntry d e
unfolding entry_of
entry_says d e h =
    let a = bind_ok (or_fault (Shape field.Entry) (as_object d)) _ e h in
    let b = bind_ok (or_fault (Shape field.Name) (text_at (codes "name") d)) _ e a.2 in
    let c = bind_ok (or_fault (Shape field.Asn) (number_at (codes "asn") d)) _ e b.2 in
    let f = bind_ok (or_fault (Shape field.Id) (text_at (codes "id") d)) _ e c.2 in
    let g = bind_ok (or_fault (Shape field.Id) (identifier_of f.0)) _ e f.2 in
    let k = bind_ok (unless (Shape field.Entry) (members_len a.0 == 3)) _ e g.2 in
    rw (← ok_same _ e k.2) (record {
      keys = (a.0, is_object d a.0 (or_fault_ok _ _ _ a.1), eqb-true _ _ (unless_ok _ _ _ k.1));
      name = text_there (codes "name") d b.0 (or_fault_ok _ _ _ b.1);
      asn = number_there (codes "asn") d c.0 (or_fault_ok _ _ _ c.1);
      address = f.0;
      id = text_there (codes "id") d f.0 (or_fault_ok _ _ _ f.1);
      spelled = address_there f.0 g.0 (or_fault_ok _ _ _ g.1);
    })

abbrev pub entry : Site → Entry
entry s = record { name = s.name; asn = s.asn; id = s.id }

sites_said : (ds : Items) (ss : List Site) → EachSays SaysEntry ds (map entry ss) → AllByRecursion (λ (e : Entry). IsTrue (is_name e.name)) (map entry ss) → EachSays SaysSite ds ss
sites_said no_items [] s a = tt
sites_said no_items (x ∷ ss) s a = absurd s
sites_said (item d ds) [] s a = absurd s
sites_said (item d ds) (x ∷ ss) s a =
    let e = s.0 in
    (record { keys = e.keys; name = e.name; asn = e.asn; address = e.address; id = e.id; spelled = e.spelled; lawful = a.0 }, sites_said ds ss s.1 a.1)

-- ---- links

ends_say : (d : Data) (e : Ends) → ends_of d ≡ Ok e → d ≡ array (item (string e.from) (item (string e.to) no_items))
unfolding ends_of
ends_say d e h =
    let a = bind_ok (or_fault (Shape field.Entry) (list_at d)) _ e h in
    let b = bind_ok (unless (Shape field.Entry) (length a.0 == 2)) _ e a.2 in
    let c = bind_ok (or_fault (Shape field.Entry) (option_and_then as_str (slice_get a.0 0))) _ e b.2 in
    let f = bind_ok (or_fault (Shape field.Entry) (option_and_then as_str (slice_get a.0 1))) _ e c.2 in
    let is = items_there d a.0 (or_fault_ok _ _ _ a.1) in
    rw (← ok_same _ e f.2) (is.1 ∙ ap array (two_there is.0 c.0 f.0 (rw is.2 (unless_ok _ _ _ b.1)) (rw is.2 (or_fault_ok _ _ _ c.1)) (rw is.2 (or_fault_ok _ _ _ f.1))))

-- what stands at the place that is found
pub found_there : {A : Type 0} (p : A → Bool) (xs : List A) (i : ℕ) → position p xs ≡ Some i → (x : A) × (slice_get xs i ≡ Some x) × (p x ≡ true)
found_there p xs i h =
    let y = find-any p xs (list_any-at_position p xs i h) in
    (y.0, sym (find-position p xs i h) ∙ y.1, (find_parts p xs y.0 y.1).2)

-- the one of some sites with a name
pub named_there : (ss : List Site) (name : List ℕ) (i : ℕ) → position (bytes_eq name) (map (λ (s : Site). s.name) ss) ≡ Some i → (s : Site) × (slice_get ss i ≡ Some s) × (name ≡ s.name)
named_there ss name i h =
    let f = found_there (λ (s : Site). bytes_eq name s.name) ss i (sym (position-map (bytes_eq name) (λ (s : Site). s.name) ss) ∙ h) in
    (f.0, f.1, (bytes_eq-Decides name f.0.name).0 f.2)

module _ (net : PlainNet) where
  abbrev names : List (List ℕ)
  names = map (λ (s : Site). s.name) (sites net)

  ends_there : (d : Data) (e : Ends) (a b : ℕ) → d ≡ array (item (string e.from) (item (string e.to) no_items))
      → position (bytes_eq e.from) names ≡ Some a → position (bytes_eq e.to) names ≡ Some b → SaysEnds net d a b
  ends_there d e a b is from to =
      let f = named_there (sites net) e.from a from in
      let t = named_there (sites net) e.to b to in
      (f.0, t.0, is ∙ ap₂ (λ x y. array (item (string x) (item (string y) no_items))) f.2 t.2, f.1, t.1)

  link_there : (d : Data) (e : Ends) (l : ℕ × ℕ) → d ≡ array (item (string e.from) (item (string e.to) no_items)) → Joins names e l → SaysLink net d l
  link_there d e l is j = by j.orders.2
    where
      by : (l.0 ≡ j.from) ⊎ (l.0 ≡ j.to) → SaysLink net d l
      by (inl first) = let second : l.1 ≡ j.to = omega (arith, first, j.orders.1) in inl (rw (first, second) (ends_there d e j.from j.to is j.from_is j.to_is))
      by (inr first) = let second : l.1 ≡ j.from = omega (arith, first, j.orders.1) in inr (rw (first, second) (ends_there d e j.from j.to is j.from_is j.to_is))

  links_said : (ds : Items) (es : List Ends) (ls : List (ℕ × ℕ))
      → EachSays (λ d (e : Ends). d ≡ array (item (string e.from) (item (string e.to) no_items))) ds es → AllJoin names es ls
      → EachSays (SaysLink net) ds ls
  links_said no_items [] [] s j = tt
  links_said no_items [] (l ∷ ls) s j = absurd j
  links_said no_items (e ∷ es) ls s j = absurd s
  links_said (item d ds) [] ls s j = absurd s
  links_said (item d ds) (e ∷ es) [] s j = absurd j
  links_said (item d ds) (e ∷ es) (l ∷ ls) s j = (link_there d e l s.0 j.0, links_said ds es ls s.1 j.1)

-- ---- the network

names_entries : (ss : List Site) → names_of (map entry ss) ≡ map (λ (s : Site). s.name) ss
names_entries [] = refl
names_entries (s ∷ ss) = ap (λ ns. s.name ∷ ns) (names_entries ss)

-- what the topology says of the network that it is judged as
pub record SaysNet (t : Topology) (net : PlainNet) : Type 0 where
  pub routers : map entry net.routers ≡ t.routers
  pub peers : map entry net.peers ≡ t.peers
  pub named_routers : AllByRecursion (λ (e : Entry). IsTrue (is_name e.name)) t.routers
  pub named_peers : AllByRecursion (λ (e : Entry). IsTrue (is_name e.name)) t.peers
  pub links : List (ℕ × ℕ)
  pub joins : AllJoin (names_of (t.routers ++ t.peers)) t.links links
  pub ascend : ascending links ≡ net.links

links_say : (names : List (List ℕ)) (routers : ℕ) (es : List Ends) (links : List (ℕ × ℕ)) → links_of names routers es ≡ Ok links → (ls : List (ℕ × ℕ)) × AllJoin names es ls × (ascending ls ≡ links)
unfolding links_of
links_say names routers es links h =
    let a = bind_ok (each_from (joined names) 1 es) _ links h in
    let b = bind_ok (links_differ a.0) _ links a.2 in
    let c = bind_ok (ends_differ a.0) _ links b.2 in
    let d = bind_ok (routers_linked routers a.0) _ links c.2 in
    (a.0, all_join names 1 es a.0 a.1, ok_same (ascending a.0) links d.2)

judged_says : (t : Topology) (net : PlainNet) → judged t ≡ Ok net → SaysNet t net
judged_says t net h =
    let s = judged_steps t net h in
    let l = links_say (names_of (t.routers ++ t.peers)) (length t.routers) t.links net.links s.linked in
    record {
      routers = (each_site kind.Routers t.routers net.routers s.lawful_routers).0;
      peers = (each_site kind.Peers t.peers net.peers s.lawful_peers).0;
      named_routers = all_named kind.Routers 1 t.routers t.routers s.named_routers;
      named_peers = all_named kind.Peers 1 t.peers t.peers s.named_peers;
      links = l.0;
      joins = l.1;
      ascend = l.2;
    }

-- the arrays of a value
pub record SaysTopology (d : Data) (t : Topology) : Type 0 where
  pub keys : HasKeys 3 d
  pub routers : HasArray (codes "routers") d SaysEntry t.routers
  pub peers : HasArray (codes "peers") d SaysEntry t.peers
  pub links : HasArray (codes "links") d (λ l (e : Ends). l ≡ array (item (string e.from) (item (string e.to) no_items))) t.links

array_said : {A : Type 0} (Says : Data → A → Type 0) (f : Data → Result A TopoFault) → ((d : Data) (x : A) → f d ≡ Ok x → Says d x)
    → (key : List ℕ) (d v : Data) (ds : List Data) (xs : List A) → get key d ≡ Some v → list_at v ≡ Some ds → each f ds ≡ Ok xs → HasArray key d Says xs
unfolding each
array_said Says f says key d v ds xs at list read =
    let is = items_there v ds list in
    (is.0, at ∙ ap Some is.1, each_says Says f says 1 is.0 xs (ap (each_from (λ _. f) 1) is.2 ∙ read))

shape_says : (d : Data) (t : Topology) → shape_of d ≡ Ok t → SaysTopology d t
unfolding shape_of
shape_says d t h =
    let a = bind_ok (or_fault (Shape field.Top) (as_object d)) _ t h in
    let b = bind_ok (or_fault (Shape field.Top) (get (codes "routers") d)) _ t a.2 in
    let c = bind_ok (or_fault (Shape field.Top) (get (codes "peers") d)) _ t b.2 in
    let e = bind_ok (or_fault (Shape field.Top) (get (codes "links") d)) _ t c.2 in
    let f = bind_ok (unless (Shape field.Top) (members_len a.0 == 3)) _ t e.2 in
    let g = bind_ok (or_fault (Shape field.Routers) (list_at b.0)) _ t f.2 in
    let k = bind_ok (each entry_of g.0) _ t g.2 in
    let l = bind_ok (or_fault (Shape field.Peers) (list_at c.0)) _ t k.2 in
    let m = bind_ok (each entry_of l.0) _ t l.2 in
    let n = bind_ok (or_fault (Shape field.Links) (list_at e.0)) _ t m.2 in
    let o = bind_ok (each ends_of n.0) _ t n.2 in
    rw (← ok_same _ t o.2) (record {
      keys = (a.0, is_object d a.0 (or_fault_ok _ _ _ a.1), eqb-true _ _ (unless_ok _ _ _ f.1));
      routers = array_said SaysEntry entry_of entry_says (codes "routers") d b.0 g.0 k.0 (or_fault_ok _ _ _ b.1) (or_fault_ok _ _ _ g.1) k.1;
      peers = array_said SaysEntry entry_of entry_says (codes "peers") d c.0 l.0 m.0 (or_fault_ok _ _ _ c.1) (or_fault_ok _ _ _ l.1) m.1;
      links =
          array_said (λ l (e : Ends). l ≡ array (item (string e.from) (item (string e.to) no_items))) ends_of ends_say (codes "links") d e.0 n.0 o.0
          (or_fault_ok _ _ _ e.1) (or_fault_ok _ _ _ n.1) o.1;
    })

array_of_sites : (key : List ℕ) (d : Data) (es : List Entry) (ss : List Site) → map entry ss ≡ es
    → AllByRecursion (λ (e : Entry). IsTrue (is_name e.name)) es → HasArray key d SaysEntry es → HasArray key d SaysSite ss
array_of_sites key d es ss same named s =
    (s.0, s.1, sites_said s.0 ss (subst (EachSays SaysEntry s.0) (sym same) s.2) (subst (AllByRecursion (λ (e : Entry). IsTrue (is_name e.name))) (sym same) named))

pub networks_are_meant : (bytes : List ℕ) (net : PlainNet) → spelled bytes ≡ Ok net → IsTopologyOf bytes net
unfolding spelled
networks_are_meant bytes net h =
    let r = says_read NotJson shape_of judged bytes net h in
    let said = r.0 in
    let s = shape_says r.1.0 said r.1.3 in
    let n = judged_says said net r.2 in
    let names : names_of (said.routers ++ said.peers) ≡ map (λ (x : Site). x.name) (sites net) =
    ap names_of (ap₂ (λ (xs ys : List Entry). xs ++ ys) (sym n.routers) (sym n.peers) ∙ sym (map-append entry net.routers net.peers)) ∙ names_entries (sites net) in
    record {
      utf8 = r.1.1;
      value = r.1.0;
      json = r.1.2;
      keys = s.keys;
      routers = array_of_sites (codes "routers") r.1.0 said.routers net.routers n.routers n.named_routers s.routers;
      peers = array_of_sites (codes "peers") r.1.0 said.peers net.peers n.peers n.named_peers s.peers;
      links = n.links;
      said = (s.links.0, s.links.1, links_said net s.links.0 said.links n.links s.links.2 (subst (λ x. AllJoin x said.links n.links) names n.joins));
      ascend = n.ascend;
      lawful = net_read bytes net h;
    }
