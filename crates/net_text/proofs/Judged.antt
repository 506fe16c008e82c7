-- What is written of a network keeps the rules of topologies, and is that network.
use Rattle.std.proofs.Common.{◌≡◌, ℕ, ◌+◌, ◌<◌, List, [], ◌∷◌, ◌++◌, length, map, take, drop, Option, Some, None, Result, Ok, Err, Bool, true, false, ◌||◌, ◌&&◌, refl, sym}
use Rattle.std.proofs.Common.{ap, ◌∙◌, arith, map-id, append-nil, append_assoc, length-append, length-take-le, subst}
use Rattle.std.specs.Prelude.{⊤, IsTrue, ◌==◌, nat_eq, nat_lt, nat_le, fold, option_map, position, slice_get}
use Rattle.std.specs.List.{AllByRecursion, IsDistinct}
use Rattle.std.specs.Str.{bytes_eq}
use Rattle.std.proofs.lemmas.Bool.{le-leb, lt-ltb, ltb-true, lt-leb, eqb-true, and_parts}
use Rattle.std.proofs.lemmas.List.{map-append, length-map, take-append-drop}
use Rattle.std.proofs.lemmas.Option.{slice_get-map}
use Rattle.list_law.proofs.Changed.{map-map}
use Rattle.list_law.proofs.Each.{AllByRecursion-push, list_any_breaks}
use Rattle.list_law.proofs.Items.{slice_get_inside, drop_from}
use Rattle.list_law.proofs.Keys.{others_before}
use Rattle.list_law.proofs.Positions.{position-there, list_any-at_position}
use Rattle.list_law.proofs.Texts.{bytes_eq_self, bytes_eq_apart}
use Rattle.net_base.specs.Network.{PlainNet, IsNet, IsLink, IsBefore, Ascend, is_before, same_ends, sites}
use Rattle.net_base.specs.Steps.{each_from}
use Rattle.net_base.specs.declared.net.Site.{Site}
use Rattle.topology.specs.declared.parts.Kind.{Kind}
use Rattle.topology.specs.declared.parts.Kind.TheVariants as kind
use Rattle.net_base.proofs.Links.{same_ends-swap}
use Rattle.topology.specs.declared.fault.TopoFault.{TopoFault}
use Rattle.topology.specs.declared.fault.TopoFault.TheVariants.{LinkTwice, SelfLink, PeerLink}
use Rattle.topology.specs.declared.sites.Number.TheVariants as which
use Rattle.topology.specs.Rules.{no_fault, named, site_of, is_lawful_as, joined, put, ascending, links_differ, ends_differ, routers_linked, links_of, counted, names_differ}
use Rattle.topology.specs.Rules.{numbers_differ, names_of, judged}
use Rattle.topology.specs.Shape.{each, Entry}
use Rattle.topology.proofs.EntryFaults.{names_break, asns_break, ids_break}
use Rattle.topology.proofs.Networks.{judged-links}
use Rattle.topology.proofs.Outcomes.{all_unlike-breaks, all_nothing}
use Rattle.net_text.specs.NetText.{HaveNames, name_at}
use Rattle.net_text.proofs.Shaped.{site_entry, ends_at, topology_of}

-- ---- routers and peers

counted_again : (net : PlainNet) → IsNet net → counted (topology_of net) ≡ Ok tt
unfolding counted
counted_again net is =
    rw (
      length-map net.routers site_entry,
      le-leb (length net.routers) 512 is.routers,
      length-map net.peers site_entry,
      le-leb (length net.peers) 256 is.peers,
      length-map net.links (ends_at net),
      le-leb (length net.links) 8192 is.count,
    )
    refl

named_again : (k : Kind) (place : ℕ) (ss : List Site) → HaveNames ss → each_from (named k) place (map site_entry ss) ≡ Ok (map site_entry ss)
unfolding named
named_again k place [] are = refl
named_again k place (s ∷ ss) are = rw (are.0, named_again k (place + 1) ss are.1) refl

sites_from : (k : Kind) (place : ℕ) (ss : List Site) → AllByRecursion (λ (s : Site). IsTrue (is_lawful_as k s.asn)) ss → each_from (λ _. site_of k) place (map site_entry ss) ≡ Ok ss
unfolding site_of
sites_from k place [] are = refl
sites_from k place (s ∷ ss) are = rw (are.0, sites_from k (place + 1) ss are.1) refl

sites_again : (k : Kind) (ss : List Site) → AllByRecursion (λ (s : Site). IsTrue (is_lawful_as k s.asn)) ss → each (site_of k) (map site_entry ss) ≡ Ok ss
unfolding each
sites_again k ss are = sites_from k 1 ss are

-- a rule that no fault breaks is kept
kept : (r : Result ⊤ TopoFault) → ((e : TopoFault) → r ≡ Err e → ⊥) → r ≡ Ok tt
kept (Ok u) none = refl
kept (Err e) none = absurd (none e refl)

entries : PlainNet → List Entry
entries net = map site_entry net.routers ++ map site_entry net.peers

entries_sites : {B : Type 0} (key : Entry → B) (net : PlainNet) → map key (map site_entry net.routers ++ map site_entry net.peers) ≡ map (λ s. key (site_entry s)) (sites net)
entries_sites key net = ap (map key) (sym (map-append site_entry net.routers net.peers)) ∙ map-map key site_entry (sites net)

module _ (net : PlainNet) (is : IsNet net) where
  abbrev all : List Entry
  all = map site_entry net.routers ++ map site_entry net.peers

  names_again : names_differ all ≡ Ok tt
  names_again = kept (names_differ all) (λ e h. (names_break all e h).0 (subst (IsDistinct bytes_eq) (sym (entries_sites (λ (e : Entry). e.name) net)) is.names))

  asns_again : numbers_differ which.As all ≡ Ok tt
  asns_again = kept (numbers_differ which.As all) (λ e h. (asns_break all e h).0 (subst (IsDistinct nat_eq) (sym (entries_sites (λ (e : Entry). e.asn) net)) is.asns))

  ids_again : numbers_differ which.Id all ≡ Ok tt
  ids_again = kept (numbers_differ which.Id all) (λ e h. (ids_break all e h).0 (subst (IsDistinct nat_eq) (sym (entries_sites (λ (e : Entry). e.id) net)) is.ids))

-- ---- the ends of links

-- an item of a list whose items differ is found at its place
place_found : (names : List (List ℕ)) (i : ℕ) (x : List ℕ) → IsDistinct bytes_eq names → i < length names → slice_get names i ≡ Some x → position (bytes_eq x) names ≡ Some i
place_found names i x apart low at =
    let cut : take i names ++ x ∷ drop (i + 1) names ≡ names = ap (λ ds. take i names ++ ds) (sym (drop_from names i x at)) ∙ take-append-drop i names in
    let none = others_before bytes_eq bytes_eq_apart (take i names) x (drop (i + 1) names) (subst (IsDistinct bytes_eq) (sym cut) apart) in
    ap (position (bytes_eq x)) (sym cut) ∙ position-there (bytes_eq x) (take i names) x (drop (i + 1) names) none (bytes_eq_self x)
    ∙ ap (λ (n : ℕ). Some n) (length-take-le i names (omega (arith, low)))

module _ (net : PlainNet) (is : IsNet net) where
  abbrev names : List (List ℕ)
  names = map (λ (s : Site). s.name) (sites net)

  total : length names ≡ length net.routers + length net.peers
  total = length-map (sites net) (λ (s : Site). s.name) ∙ length-append net.routers net.peers

  name_there : (l : ℕ) → l < length net.routers + length net.peers → slice_get names l ≡ Some (name_at net l)
  name_there l low =
      let s = slice_get_inside (sites net) l (omega (arith, low, length-append net.routers net.peers)) in
      slice_get-map (λ (s : Site). s.name) (sites net) l ∙ rw s.1 refl

  pub name_place : (l : ℕ) → l < length net.routers + length net.peers → position (bytes_eq (name_at net l)) names ≡ Some l
  name_place l low = place_found names l (name_at net l) is.names (omega (arith, low, total)) (name_there l low)

  joined_again : (place : ℕ) (links : List (ℕ × ℕ)) → AllByRecursion (IsLink net) links → each_from (joined names) place (map (ends_at net) links) ≡ Ok links
  unfolding joined
  joined_again place [] are = refl
  joined_again place (l ∷ ls) are =
      rw (name_place l.0 (omega (arith, are.0.0, are.0.1)), name_place l.1 are.0.1, lt-ltb l.0 l.1 are.0.0, joined_again (place + 1) ls are.1) refl

-- ---- the order of links

before_apart : (x y : ℕ × ℕ) → IsBefore x y → same_ends x y ≡ false
before_apart x y b = by (same_ends x y) refl
  where
    by : (t : Bool) → same_ends x y ≡ t → t ≡ false
    by false e = refl
    by true e =
        let f = and_parts (x.0 == y.0) (x.1 == y.1) e in
        let p = eqb-true x.0 y.0 f.0 in
        absurd (omega (arith, b.1 p, eqb-true x.1 y.1 f.1))

all_apart : (x : ℕ × ℕ) (ys : List (ℕ × ℕ)) → AllByRecursion (IsBefore x) ys → AllByRecursion (λ y. same_ends x y ≡ false) ys
all_apart x [] are = tt
all_apart x (y ∷ ys) are = (before_apart x y are.0, all_apart x ys are.1)

distinct_links : (links : List (ℕ × ℕ)) → Ascend links → IsDistinct same_ends links
unfolding IsDistinct
distinct_links [] a = tt
distinct_links (l ∷ ls) a = (all_apart l ls a.0, distinct_links ls a.1)

links_differ_again : (links : List (ℕ × ℕ)) → Ascend links → links_differ links ≡ Ok tt
unfolding links_differ
links_differ_again links a =
    kept (links_differ links)
    (λ e h. let q = all_unlike-breaks (λ (p : ℕ × ℕ). p) same_ends same_ends-swap (λ place _ _. LinkTwice place) (λ f. ⊤) (λ k a b. tt) [] links e h in
    q.0 (subst (IsDistinct same_ends) (sym (map-id links)) (distinct_links links a)) (all_nothing same_ends (map (λ (p : ℕ × ℕ). p) links)))

-- a test that no link passes finds no place
nowhere : (told : ℕ → TopoFault) (p : ℕ × ℕ → Bool) (links : List (ℕ × ℕ)) → AllByRecursion (λ l. p l ≡ false) links → no_fault (option_map told (position p links)) ≡ Ok tt
nowhere told p links none = by (position p links) refl
  where
    by : (o : Option ℕ) → position p links ≡ o → no_fault (option_map told o) ≡ Ok tt
    by None e = refl
    by (Some i) e = absurd (list_any_breaks p links (list_any-at_position p links i e) none)

apart_ends : (net : PlainNet) (links : List (ℕ × ℕ)) → AllByRecursion (IsLink net) links → AllByRecursion (λ (l : ℕ × ℕ). (l.0 == l.1) ≡ false) links
apart_ends net [] are = tt
apart_ends net (l ∷ ls) are = (ends l.0 l.1 are.0.0, apart_ends net ls are.1)
  where
    ends : (a b : ℕ) → a < b → (a == b) ≡ false
    ends a b low = by (a == b) refl
      where
        by : (t : Bool) → (a == b) ≡ t → t ≡ false
        by false e = refl
        by true e = absurd (omega (arith, low, eqb-true a b e))

router_ends : (net : PlainNet) (links : List (ℕ × ℕ)) → AllByRecursion (IsLink net) links → AllByRecursion (λ (l : ℕ × ℕ). nat_le (length net.routers) l.0 ≡ false) links
router_ends net [] are = tt
router_ends net (l ∷ ls) are = (lt-leb (length net.routers) l.0 are.0.2, router_ends net ls are.1)

-- ---- links in their order are put behind one another

put_last : (xs : List (ℕ × ℕ)) (l : ℕ × ℕ) → AllByRecursion (λ x. IsBefore x l) xs → put xs l ≡ xs ++ l ∷ []
put_last [] l are = refl
put_last (x ∷ xs) l are = rw (not_before x l are.0, put_last xs l are.1) refl
  where
    not_before : (x l : ℕ × ℕ) → IsBefore x l → is_before l x ≡ false
    not_before x l b = by (nat_lt l.0 x.0) (l.0 == x.0) (nat_lt l.1 x.1) refl refl refl
      where
        by : (less same less2 : Bool) → nat_lt l.0 x.0 ≡ less → (l.0 == x.0) ≡ same → nat_lt l.1 x.1 ≡ less2 → (less || (same && less2)) ≡ false
        by true same less2 e f g = absurd (omega (arith, b.0, ltb-true l.0 x.0 e))
        by false true true e f g = let p = eqb-true l.0 x.0 f in let q = b.1 (sym p) in absurd (omega (arith, q, ltb-true l.1 x.1 g))
        by false true false e f g = refl
        by false false less2 e f g = refl

fold_put : (xs ls : List (ℕ × ℕ)) → AllByRecursion (λ l. AllByRecursion (λ x. IsBefore x l) xs) ls → Ascend ls → fold put xs ls ≡ xs ++ ls
fold_put xs [] are a = sym (append-nil xs)
fold_put xs (l ∷ ls) are a = rw (put_last xs l are.0) (fold_put (xs ++ l ∷ []) ls (more xs l ls are.1 a.0) a.1 ∙ append_assoc xs (l ∷ []) ls)
  where
    more : (xs : List (ℕ × ℕ)) (l : ℕ × ℕ) (ls : List (ℕ × ℕ)) → AllByRecursion (λ m. AllByRecursion (λ x. IsBefore x m) xs) ls
        → AllByRecursion (IsBefore l) ls → AllByRecursion (λ m. AllByRecursion (λ x. IsBefore x m) (xs ++ l ∷ [])) ls
    more xs l [] are after = tt
    more xs l (m ∷ ms) are after = (AllByRecursion-push (λ x. IsBefore x m) xs l are.0 after.0, more xs l ms are.1 after.1)

ascending_again : (links : List (ℕ × ℕ)) → Ascend links → ascending links ≡ links
ascending_again links a = fold_put [] links (all links) a
  where
    all : (ls : List (ℕ × ℕ)) → AllByRecursion (λ l. AllByRecursion (λ x. IsBefore x l) []) ls
    all [] = tt
    all (l ∷ ls) = (tt, all ls)

-- ---- the whole

links_again : (net : PlainNet) → IsNet net
    → links_of (names_of (map site_entry net.routers ++ map site_entry net.peers)) (length (map site_entry net.routers)) (map (ends_at net) net.links)
    ≡ Ok net.links
unfolding links_of ends_differ routers_linked
links_again net is =
    rw (
      entries_sites (λ (e : Entry). e.name) net,
      joined_again net is 1 net.links is.links,
      links_differ_again net.links is.order,
      nowhere (λ i. SelfLink (i + 1)) (λ l. l.0 == l.1) net.links (apart_ends net net.links is.links),
      length-map net.routers site_entry,
      nowhere (λ i. PeerLink (i + 1)) (λ l. nat_le (length net.routers) l.0) net.links (router_ends net net.links is.links),
      ascending_again net.links is.order,
    )
    refl

pub judged_again : (net : PlainNet) → IsNet net → HaveNames net.routers → HaveNames net.peers → judged (topology_of net) ≡ Ok net
judged_again net is routers peers =
    judged-links (topology_of net) (map site_entry net.routers) (map site_entry net.peers) net.routers net.peers
    (counted_again net is) (named_again kind.Routers 1 net.routers routers) (named_again kind.Peers 1 net.peers peers) (names_again net is)
    (sites_again kind.Routers net.routers is.router_asns) (sites_again kind.Peers net.peers is.peer_asns) (asns_again net is) (ids_again net is)
    ∙ rw (links_again net is) refl
