-- The names and the numbers of different locations differ, and they are in their ranges.
use Rattle.std.proofs.Common.{◌≡◌, ◌≢◌, ℕ, zero, suc, ◌+◌, ◌<◌, ◌≤◌, ◌^◌, Bool, true, false, List, [], ◌∷◌, ◌++◌, length, map, get_or, Option, Some, refl, sym, ap, ◌∙◌, arith, inl, inr, length-append}
use Rattle.std.specs.Prelude.{IsTrue, nat_le, slice_get, MatchBool}
use Rattle.std.specs.Option.{option_map_or}
use Rattle.std.specs.List.{AllByRecursion, IsDistinct}
use Rattle.std.proofs.lemmas.Bool.{cases_Bool, and_parts, ltb-true, leb-true, lt-ltb}
use Rattle.std.proofs.lemmas.List.{length-map}
use Rattle.std.proofs.lemmas.Map.Keys.{apart_from_distinct}
use Rattle.net_base.specs.declared.net.Site.{Site}
use Rattle.net_base.specs.Numbers.{is_router_as, is_peer_as}
use Rattle.net_base.specs.Network.{PlainNet, IsNet, sites, site_of, is_peer, is_location, asn_of, id_of}
use Rattle.net_base.proofs.RoutersAndPeers.{router_or_peer}

-- ---- keys of different locations differ

keyed : {K : Type 0} (key : Site → K) (xs : List Site) (i : ℕ) (d : K) → option_map_or key (slice_get xs i) d ≡ get_or (map key xs) i d
keyed key [] i d = refl
keyed key (x ∷ xs) zero d = refl
keyed key (x ∷ xs) (suc i) d = keyed key xs i d

module _ (net : PlainNet) where
  abbrev total : ℕ
  total = length net.routers + length net.peers

  pub apart_sites : {K : Type 0} (e : K → K → Bool) (key : Site → K) (d : K) → IsDistinct e (map key (sites net)) → (a b : ℕ) → a < b → b < total
      → e (option_map_or key (site_of net a) d) (option_map_or key (site_of net b) d) ≡ false
  apart_sites e key d apart a b below within =
      let long = length-append net.routers net.peers in
      let many = length-map (sites net) key in
      rw (keyed key (sites net) a d, keyed key (sites net) b d) (apart_from_distinct e (map key (sites net)) a b d apart below (omega arith))

kept : {A : Type 0} (P : A → Type 0) (xs : List A) (i : ℕ) → AllByRecursion P xs → i < length xs → (s : A) × (slice_get xs i ≡ Some s) × P s
kept P [] i all within = absurd (omega arith)
kept P (x ∷ xs) zero all within = (x, refl, all.0)
kept P (x ∷ xs) (suc i) all within = kept P xs i all.1 (omega arith)

kept_front : {A : Type 0} (P : A → Type 0) (xs ys : List A) (i : ℕ) → AllByRecursion P xs → i < length xs → (s : A) × (slice_get (xs ++ ys) i ≡ Some s) × P s
kept_front P [] ys i all within = absurd (omega arith)
kept_front P (x ∷ xs) ys zero all within = (x, refl, all.0)
kept_front P (x ∷ xs) ys (suc i) all within = kept_front P xs ys i all.1 (omega arith)

kept_back : {A : Type 0} (P : A → Type 0) (xs ys : List A) (i : ℕ) → AllByRecursion P ys → length xs ≤ i → i < length xs + length ys → (s : A) × (slice_get (xs ++ ys) i ≡ Some s) × P s
kept_back P [] ys i all past within = kept P ys i all (omega arith)
kept_back P (x ∷ xs) ys zero all past within = absurd (omega arith)
kept_back P (x ∷ xs) ys (suc i) all past within = kept_back P xs ys i all (omega arith) (omega arith)

module _ (net : PlainNet) (rules : IsNet net) where
  pub router_number : (l : ℕ) → l < length net.routers → is_router_as (asn_of net l) ≡ true
  router_number l within =
      let site = kept_front (λ (s : Site). IsTrue (is_router_as s.asn)) net.routers net.peers l rules.router_asns within in
      ap (λ (o : Option Site). is_router_as (option_map_or (λ (s : Site). s.asn) o 0)) site.1 ∙ site.2

  pub peer_number : (l : ℕ) → is_peer net l ≡ true → is_peer_as (asn_of net l) ≡ true
  peer_number l peer =
      let parts = and_parts (nat_le (length net.routers) l) (is_location net l) peer in
      let site = kept_back (λ (s : Site). IsTrue (is_peer_as s.asn)) net.routers net.peers l rules.peer_asns (leb-true _ _ parts.0) (ltb-true _ _ parts.1) in
      ap (λ (o : Option Site). is_peer_as (option_map_or (λ (s : Site). s.asn) o 0)) site.1 ∙ site.2

  pub identifier_fits : (l : ℕ) → l < length net.routers + length net.peers → (id_of net l ≢ 0) × (id_of net l < 2 ^ 32)
  identifier_fits l within =
      let site = kept (λ (s : Site). (s.id ≢ 0) × (s.id < 2 ^ 32)) (sites net) l rules.id_ranges (omega (arith, within, length-append net.routers net.peers)) in
      let is : id_of net l ≡ site.0.id = ap (λ (o : Option Site). option_map_or (λ (s : Site). s.id) o 0) site.1 in
      (λ none. site.2.0 (sym is ∙ none), omega (arith, is, site.2.1))

  pub number_fits : (l : ℕ) → l < length net.routers + length net.peers → MatchBool (is_peer net l) (IsTrue (is_peer_as (asn_of net l))) (IsTrue (is_router_as (asn_of net l)))
  number_fits l within = elim (cases_Bool (is_peer net l)) [
    | inl t ↦ rw t (peer_number l t)
    | inr t ↦ rw t (router_number l (ltb-true _ _ (router_or_peer net l (lt-ltb _ _ within) t)))
  ]
