-- A text that means a network spells it.
use Rattle.std.proofs.Common.{◌≡◌, ◌≢◌, ℕ, ◌+◌, ◌<◌, ◌≤◌, ◌^◌, inl, inr, List, [], ◌∷◌, ◌++◌, length, map, Option, None, Some, Ok, Err, Result, Bool, true, false, refl}
use Rattle.std.proofs.Common.{sym, ap, subst, ◌∙◌, arith, map-id, eqb-true, eq-eqb, ltb-true, lt-ltb, le-leb}
use Rattle.std.specs.Prelude.{⊤, ◌==◌, nat_lt, nat_le, nat_eq, slice_get, option_map, IsTrue, position, if◌then◌else◌}
use Rattle.std.specs.List.{AllByRecursion, IsDistinct}
use Rattle.std.specs.Str.{bytes_eq}
use Rattle.std.proofs.lemmas.Bool.{leb-true, false≢true}
use Rattle.std.proofs.lemmas.List.{length-map}
use Rattle.list_law.proofs.Each.{AllByRecursion-append_parts, AllByRecursion-weaker, list_any_breaks}
use Rattle.list_law.proofs.Keys.{place_by_key}
use Rattle.list_law.proofs.Options.{none_from}
use Rattle.list_law.proofs.Members.{list_any-from_IsIn}
use Rattle.list_law.proofs.Positions.{position-map, list_any-at_position, list_any-no_position}
use Rattle.list_law.proofs.Texts.{bytes_eq_self}
use Rattle.serde_json.specs.Data.{Data, Items, no_items, item}
use Rattle.serde_json.specs.Events.{members_len}
use Rattle.serde_json.specs.Find.{as_object}
use Rattle.json_values.specs.Json.{list_of}
use Rattle.json_values.proofs.JsonTexts.{json_of-read}
use Rattle.net_base.specs.declared.net.Site.{Site}
use Rattle.net_base.specs.Addresses.{address_of}
use Rattle.net_base.specs.NameRule.{is_name}
use Rattle.net_base.specs.Network.{PlainNet, IsNet, IsLink, sites, ordered, same_ends, Ascend}
use Rattle.net_base.specs.Steps.{◌>>=◌, each_from}
use Rattle.net_base.proofs.Links.{same_ends-swap}
use Rattle.topology.specs.declared.fault.TopoFault.{TopoFault}
use Rattle.topology.specs.declared.fault.TopoFault.TheVariants.{LinkTwice, SelfLink, PeerLink}
use Rattle.topology.specs.declared.parts.Kind.{Kind}
use Rattle.topology.specs.declared.parts.Kind.TheVariants as kind
use Rattle.topology.specs.Rules.{ascending, no_fault, counted, names_differ, numbers_differ, named, site_of, names_of, joined, links_differ, ends_differ, routers_linked}
use Rattle.topology.specs.Rules.{links_of, judged, is_lawful_as}
use Rattle.topology.specs.Shape.{Entry, Ends, Topology, each, entry_of, ends_of, identifier_of, shape_of}
use Rattle.topology.specs.Topology.{spelled}
use Rattle.topology.proofs.EntryFaults.{names_break, asns_break, ids_break}
use Rattle.topology.proofs.LinkRules.{links_hold}
use Rattle.topology.proofs.Networks.{judged-links}
use Rattle.topology.proofs.Outcomes.{all_unlike-breaks, all_nothing}
use Rattle.topology.specs.Meaning.{HasKeys, EachSays, SaysSite, SaysLink, IsTopologyOf}
use Rattle.topology.proofs.InOrder.{all_in_text, distinct_in_text}
use Rattle.topology.proofs.MeaningParts.{each_read}
use Rattle.topology.proofs.Read.{entry, named_there}

-- ---- routers and peers

abbrev IsId : Site → Type 0
IsId s = (s.id ≢ 0) × (s.id < 2 ^ 32)

identifier_read : (text : List ℕ) (n : ℕ) → address_of text ≡ Some n → n ≢ 0 → identifier_of text ≡ Some n
identifier_read text n is apart = rw is (by (n == 0) refl)
  where
    by : (b : Bool) → (n == 0) ≡ b → (if b then None else Some n) ≡ Some n
    by true e = absurd (apart (eqb-true n 0 e))
    by false e = refl

has_keys : (d : Data) (n : ℕ) (keys : HasKeys n d) → (as_object d ≡ Some keys.0) × ((members_len keys.0 == n) ≡ true)
has_keys d n keys = (ap as_object keys.1, eq-eqb (members_len keys.0) n keys.2)

entry_read : (d : Data) (s : Site) → SaysSite d s → IsId s → entry_of d ≡ Ok (entry s)
unfolding entry_of
entry_read d s says id =
    let k = has_keys d 3 says.keys in
    rw (k.0, says.name, says.asn, says.id, identifier_read says.address s.id says.spelled id.0, k.1) refl

site_read : (k : Kind) (s : Site) → IsTrue (is_lawful_as k s.asn) → site_of k (entry s) ≡ Ok s
unfolding site_of
site_read k s lawful = rw lawful refl

sites_read : (k : Kind) (place : ℕ) (ss : List Site) → AllByRecursion (λ (s : Site). IsTrue (is_lawful_as k s.asn)) ss → each_from (λ _. site_of k) place (map entry ss) ≡ Ok ss
sites_read k place [] a = refl
sites_read k place (s ∷ ss) a = rw (site_read k s a.0, sites_read k (place + 1) ss a.1) refl

each_sites : (k : Kind) (ss : List Site) → AllByRecursion (λ (s : Site). IsTrue (is_lawful_as k s.asn)) ss → each (site_of k) (map entry ss) ≡ Ok ss
unfolding each
each_sites k ss a = sites_read k 1 ss a

name_read : (k : Kind) (place : ℕ) (e : Entry) → IsTrue (is_name e.name) → named k place e ≡ Ok e
unfolding named
name_read k place e is = rw is refl

names_read : (k : Kind) (place : ℕ) (ds : Items) (ss : List Site) → EachSays SaysSite ds ss → each_from (named k) place (map entry ss) ≡ Ok (map entry ss)
names_read k place no_items [] s = refl
names_read k place no_items (x ∷ ss) s = absurd s
names_read k place (item d ds) [] s = absurd s
names_read k place (item d ds) (x ∷ ss) s = rw (name_read k place (entry x) s.0.lawful, names_read k (place + 1) ds ss s.1) refl

keys_of : {K : Type 0} (key : Entry → K) (rs ps : List Site) → map (λ s. key (entry s)) (rs ++ ps) ≡ map key (map entry rs ++ map entry ps)
keys_of key [] [] = refl
keys_of key [] (p ∷ ps) = ap (λ ks. key (entry p) ∷ ks) (keys_of key [] ps)
keys_of key (r ∷ rs) ps = ap (λ ks. key (entry r) ∷ ks) (keys_of key rs ps)

-- a check that tells nothing went well
nothing_told : (r : Result ⊤ TopoFault) → ((e : TopoFault) → r ≡ Err e → ⊥) → r ≡ Ok tt
nothing_told (Ok x) never = refl
nothing_told (Err e) never = absurd (never e refl)

-- ---- links

ends_in : (net : PlainNet) (d : Data) (l : ℕ × ℕ) → SaysLink net d l → Ends
ends_in net d l (inl s) = record { from = s.0.name; to = s.1.name }
ends_in net d l (inr s) = record { from = s.0.name; to = s.1.name }

ends_read : (net : PlainNet) (d : Data) (l : ℕ × ℕ) (s : SaysLink net d l) → ends_of d ≡ Ok (ends_in net d l s)
unfolding ends_of ends_in
ends_read net d l (inl s) = rw s.2 refl
ends_read net d l (inr s) = rw s.2 refl

all_ends : (net : PlainNet) (ds : Items) (ls : List (ℕ × ℕ)) → EachSays (SaysLink net) ds ls → List Ends
all_ends net no_items [] s = []
all_ends net no_items (l ∷ ls) s = []
all_ends net (item d ds) [] s = []
all_ends net (item d ds) (l ∷ ls) s = ends_in net d l s.0 ∷ all_ends net ds ls s.1

all_ends_read : (net : PlainNet) (k : ℕ) (ds : Items) (ls : List (ℕ × ℕ)) (s : EachSays (SaysLink net) ds ls) → each_from (λ _. ends_of) k (list_of ds) ≡ Ok (all_ends net ds ls s)
unfolding all_ends
all_ends_read net k no_items [] s = refl
all_ends_read net k no_items (l ∷ ls) s = absurd s
all_ends_read net k (item d ds) [] s = absurd s
all_ends_read net k (item d ds) (l ∷ ls) s = rw (ends_read net d l s.0, all_ends_read net (k + 1) ds ls s.1) refl

ordered_up : (a b : ℕ) → a < b → ordered a b ≡ (a, b)
ordered_up a b less = rw (lt-ltb a b less) refl

ordered_down : (a b : ℕ) → a < b → ordered b a ≡ (a, b)
ordered_down a b less = by (nat_lt b a) refl
  where
    by : (t : Bool) → nat_lt b a ≡ t → (let o : ℕ × ℕ = if t then (b, a) else (a, b) in o) ≡ (a, b)
    by true e = absurd (omega (arith, less, ltb-true b a e))
    by false e = refl

module _ (net : PlainNet) (distinct : IsDistinct bytes_eq (map (λ (s : Site). s.name) (sites net))) where
  abbrev names : List (List ℕ)
  names = map (λ (s : Site). s.name) (sites net)

  -- a name is found where its site stands
  place_found : (i : ℕ) (s : Site) → slice_get (sites net) i ≡ Some s → position (bytes_eq s.name) names ≡ Some i
  place_found i s at = by (position (bytes_eq s.name) names) refl
    where
      by : (o : Option ℕ) → position (bytes_eq s.name) names ≡ o → o ≡ Some i
      by None e = absurd (false≢true (sym (list_any-no_position (λ (t : Site). bytes_eq s.name t.name) (sites net) (sym (position-map (bytes_eq s.name) (λ (t : Site). t.name) (sites net)) ∙ e))
          ∙ list_any-from_IsIn (λ (t : Site). bytes_eq s.name t.name) (sites net) s (i, at) (bytes_eq_self s.name)))
      by (Some j) e =
          let t = named_there (sites net) s.name j e in
          let same = bytes_eq_self s.name in
          ap Some (place_by_key bytes_eq (λ (s : Site). s.name) (sites net) j i t.0 s distinct t.1 at (rw (← t.2) same) (rw (← t.2) same))

  link_read : (k : ℕ) (d : Data) (l : ℕ × ℕ) (s : SaysLink net d l) → l.0 < l.1 → joined names k (ends_in net d l s) ≡ Ok l
  unfolding joined ends_in
  link_read k d l (inl s) less = rw (place_found l.0 s.0 s.3, place_found l.1 s.1 s.4) (ap Ok (ordered_up l.0 l.1 less))
  link_read k d l (inr s) less = rw (place_found l.1 s.0 s.3, place_found l.0 s.1 s.4) (ap Ok (ordered_down l.0 l.1 less))

  links_read : (k : ℕ) (ds : Items) (ls : List (ℕ × ℕ)) (s : EachSays (SaysLink net) ds ls) → AllByRecursion (λ (l : ℕ × ℕ). l.0 < l.1) ls → each_from (joined names) k (all_ends net ds ls s) ≡ Ok ls
  unfolding all_ends
  links_read k no_items [] s a = refl
  links_read k no_items (l ∷ ls) s a = absurd s
  links_read k (item d ds) [] s a = absurd s
  links_read k (item d ds) (l ∷ ls) s a = rw (link_read k d l s.0 a.0, links_read (k + 1) ds ls s.1 a.1) refl

-- ---- the rules on links

never_there : {A : Type 0} (f : ℕ → TopoFault) (p : A → Bool) (xs : List A) → AllByRecursion (λ x. p x ≡ false) xs → no_fault (option_map f (position p xs)) ≡ Ok tt
never_there f p xs a = ap (λ o. no_fault (option_map f o)) (none_from (position p xs) (λ i e. list_any_breaks p xs (list_any-at_position p xs i e) a))

links_differ_kept : (ls : List (ℕ × ℕ)) → IsDistinct same_ends ls → links_differ ls ≡ Ok tt
unfolding links_differ
links_differ_kept ls d =
    nothing_told _ (λ e h. (all_unlike-breaks (λ (p : ℕ × ℕ). p) same_ends same_ends-swap (λ place _ _. LinkTwice place) (λ _. ⊤) (λ _ _ _. tt) [] ls e h).0
    (subst (IsDistinct same_ends) (sym (map-id ls)) d) (all_nothing same_ends (map (λ (p : ℕ × ℕ). p) ls)))

apart_ends : (ls : List (ℕ × ℕ)) → AllByRecursion (λ (l : ℕ × ℕ). l.0 < l.1) ls → AllByRecursion (λ (l : ℕ × ℕ). (l.0 == l.1) ≡ false) ls
apart_ends [] a = tt
apart_ends (l ∷ ls) a = (by (l.0 == l.1) refl, apart_ends ls a.1)
  where
    by : (b : Bool) → (l.0 == l.1) ≡ b → b ≡ false
    by true e = absurd (omega (arith, a.0, eqb-true l.0 l.1 e))
    by false e = refl

router_ends : (n : ℕ) (ls : List (ℕ × ℕ)) → AllByRecursion (λ (l : ℕ × ℕ). l.0 < n) ls → AllByRecursion (λ (l : ℕ × ℕ). nat_le n l.0 ≡ false) ls
router_ends n [] a = tt
router_ends n (l ∷ ls) a = (by (nat_le n l.0) refl, router_ends n ls a.1)
  where
    by : (b : Bool) → nat_le n l.0 ≡ b → b ≡ false
    by true e = absurd (omega (arith, a.0, leb-true n l.0 e))
    by false e = refl

links_kept : (names : List (List ℕ)) (routers : ℕ) (es : List Ends) (ls : List (ℕ × ℕ)) → each_from (joined names) 1 es ≡ Ok ls → IsDistinct same_ends ls
    → AllByRecursion (λ (l : ℕ × ℕ). l.0 < l.1) ls → AllByRecursion (λ (l : ℕ × ℕ). l.0 < routers) ls → links_of names routers es ≡ Ok (ascending ls)
unfolding links_of ends_differ routers_linked
links_kept names routers es ls joins d less routed =
    rw (
      joins,
      links_differ_kept ls d,
      never_there (λ i. SelfLink (i + 1)) (λ (l : ℕ × ℕ). l.0 == l.1) ls (apart_ends ls less),
      never_there
          (λ i. PeerLink (i + 1)) (λ (l : ℕ × ℕ). nat_le routers l.0) ls (router_ends routers ls routed),
    )
    refl

-- ---- the network

-- where no two of the sites have the same of this, no two of the entries have
entries_distinct : {K : Type 0} (e : K → K → Bool) (key : Entry → K) (rs ps : List Site) → IsDistinct e (map (λ s. key (entry s)) (rs ++ ps)) → IsDistinct e (map key (map entry rs ++ map entry ps))
entries_distinct e key rs ps d = subst (IsDistinct e) (keys_of key rs ps) d

module _ (bytes : List ℕ) (net : PlainNet) (m : IsTopologyOf bytes net) where
  rules : IsNet net
  rules = m.lawful

  ends : List Ends
  ends = all_ends net m.said.0 m.links m.said.2

  text : Topology
  text = record { routers = map entry net.routers; peers = map entry net.peers; links = ends }

  site_names : names_of (text.routers ++ text.peers) ≡ map (λ (s : Site). s.name) (sites net)
  unfolding text
  site_names = sym (keys_of (λ (e : Entry). e.name) net.routers net.peers)

  of_links : AllByRecursion (IsLink net) m.links
  unfolding rules
  of_links = all_in_text (IsLink net) m.links (subst (AllByRecursion (IsLink net)) (sym m.ascend) rules.links)

  linked : links_of (names_of (text.routers ++ text.peers)) (length text.routers) text.links ≡ Ok net.links
  unfolding text ends rules
  linked =
      links_kept (names_of (text.routers ++ text.peers)) (length text.routers) text.links m.links
      (subst (λ names. each_from (joined names) 1 text.links ≡ Ok m.links) (sym site_names)
      (links_read net rules.names 1 m.said.0 m.links m.said.2 (AllByRecursion-weaker (IsLink net) (λ (l : ℕ × ℕ). l.0 < l.1) m.links (λ l is. is.0) of_links)))
      (distinct_in_text m.links (subst Ascend (sym m.ascend) rules.order))
      (AllByRecursion-weaker (IsLink net) (λ (l : ℕ × ℕ). l.0 < l.1) m.links (λ l is. is.0) of_links)
      (AllByRecursion-weaker (IsLink net) (λ (l : ℕ × ℕ). l.0 < length (map entry net.routers)) m.links (λ l is. subst (λ n. l.0 < n) (sym (length-map net.routers entry)) is.2) of_links)
      ∙ ap Ok m.ascend

  few : counted text ≡ Ok tt
  unfolding counted text rules
  few =
      let r : length (map entry net.routers) ≤ 512 = subst (λ n. n ≤ 512) (sym (length-map net.routers entry)) rules.routers in
      let p : length (map entry net.peers) ≤ 256 = subst (λ n. n ≤ 256) (sym (length-map net.peers entry)) rules.peers in
      let l : length ends ≤ 8192 = subst (λ n. n ≤ 8192) (links_hold _ _ _ net.links linked).2 rules.count in
      rw (le-leb _ _ r, le-leb _ _ p, le-leb _ _ l) refl

  judged_is : judged text ≡ Ok net
  unfolding text rules names_differ numbers_differ
  judged_is =
      judged-links text text.routers text.peers net.routers net.peers few
      (names_read kind.Routers 1 m.routers.0 net.routers m.routers.2) (names_read kind.Peers 1 m.peers.0 net.peers m.peers.2)
      (nothing_told _ (λ e h. (names_break (text.routers ++ text.peers) e h).0 (entries_distinct bytes_eq (λ (e : Entry). e.name) net.routers net.peers rules.names)))
      (each_sites kind.Routers net.routers rules.router_asns) (each_sites kind.Peers net.peers rules.peer_asns)
      (nothing_told _ (λ e h. (asns_break (text.routers ++ text.peers) e h).0 (entries_distinct nat_eq (λ (e : Entry). e.asn) net.routers net.peers rules.asns)))
      (nothing_told _ (λ e h. (ids_break (text.routers ++ text.peers) e h).0 (entries_distinct nat_eq (λ (e : Entry). e.id) net.routers net.peers rules.ids)))
      ∙ ap (λ (r : Result (List (ℕ × ℕ)) TopoFault). r >>= (λ links. Ok (let n : PlainNet = record { routers = net.routers; peers = net.peers; links = links } in n))) linked

  shape_is : shape_of m.value ≡ Ok text
  unfolding shape_of each text ends rules
  shape_is =
      let k = has_keys m.value 3 m.keys in
      let ids = AllByRecursion-append_parts IsId net.routers net.peers rules.id_ranges in
      rw (
        k.0,
        m.routers.1,
        m.peers.1,
        m.said.1,
        k.1,
        each_read SaysSite IsId entry_of entry entry_read 1 m.routers.0 net.routers m.routers.2 ids.0,
        each_read SaysSite IsId entry_of entry entry_read 1 m.peers.0 net.peers m.peers.2 ids.1,
        all_ends_read net 1 m.said.0 m.links m.said.2,
      ) refl

  pub network_is_spelled : spelled bytes ≡ Ok net
  unfolding spelled
  network_is_spelled = rw (json_of-read bytes m.value m.utf8 m.json, shape_is) judged_is
