-- Names, AS numbers and identifiers of the sample differ, and are in their ranges.
use Rattle.std.proofs.Common.{◌≡◌, ℕ, ◌+◌, ◌*◌, ◌≤◌, ◌<◌, ◌^◌, Bool, false, ◌++◌, map, refl, sym, ap₂, ◌∙◌, arith, subst}
use Rattle.std.specs.Prelude.{◌≢◌, IsTrue, codes, nat_eq}
use Rattle.std.specs.Fmt.{decimal}
use Rattle.std.specs.List.{AllByRecursion, IsDistinct}
use Rattle.std.specs.Str.{bytes_eq}
use Rattle.std.proofs.lemmas.Bool.{ne_eqb}
use Rattle.std.proofs.lemmas.List.{map-append}
use Rattle.list_law.proofs.Changed.{map-map}
use Rattle.list_law.proofs.Each.{AllByRecursion-append}
use Rattle.net_base.specs.Locations.{numbers_below}
use Rattle.net_base.specs.Network.{sites}
use Rattle.net_base.specs.Numbers.{is_router_as, is_peer_as}
use Rattle.net_base.proofs.NumberRanges.{router_as-two_octets, peer_as-two_octets}
use Rattle.net_base.specs.declared.net.Site.{Site}
use Rattle.sample_network.specs.Network.{leaf, peer, sample_net, spine}
use Rattle.sample_network.proofs.Below.{across_below, distinct_append, distinct_below, each_below}
use Rattle.sample_network.proofs.SampleNames.{numbers_apart}

-- three groups that differ in themselves and from each other
module _ {K : Type 0} (e : K → K → Bool) (n : ℕ) (f g h : ℕ → K) where
  pub all_apart : ((i j : ℕ) → i < j → j < n → e (f i) (f j) ≡ false) → ((i j : ℕ) → i < j → j < 4 → e (g i) (g j) ≡ false) → ((i j : ℕ) → i < j → j < 2 → e (h i) (h j) ≡ false)
      → ((i j : ℕ) → i < n → j < 4 → e (f i) (g j) ≡ false) → ((i j : ℕ) → i < n → j < 2 → e (f i) (h j) ≡ false) → ((i j : ℕ) → i < 4 → j < 2 → e (g i) (h j) ≡ false)
      → IsDistinct e ((map f (numbers_below n) ++ map g (numbers_below 4)) ++ map h (numbers_below 2))
  all_apart a b c d p q =
      distinct_append e (map f (numbers_below n) ++ map g (numbers_below 4)) (map h (numbers_below 2))
      (distinct_append e (map f (numbers_below n)) (map g (numbers_below 4)) (distinct_below e f n a) (distinct_below e g 4 b) (across_below e f g n 4 d))
      (distinct_below e h 2 c)
      (AllByRecursion-append (λ x. AllByRecursion (λ y. e x y ≡ false) (map h (numbers_below 2))) (map f (numbers_below n)) (map g (numbers_below 4))
      (across_below e f h n 2 p) (across_below e g h 4 2 q))

-- a property of leaves, spines and peers, one of a kind after the other
keys_of : {K : Type 0} (key : Site → K) (n : ℕ)
    → (map (λ k. key (leaf k)) (numbers_below n) ++ map (λ k. key (spine n k)) (numbers_below 4)) ++ map (λ k. key (peer k)) (numbers_below 2)
    ≡ map key (sites (sample_net n))
keys_of key n =
    sym (map-append key (map leaf (numbers_below n) ++ map (spine n) (numbers_below 4)) (map peer (numbers_below 2))
    ∙ ap₂ (λ xs ys. xs ++ ys) (map-append key (map leaf (numbers_below n)) (map (spine n) (numbers_below 4))
    ∙ ap₂ (λ xs ys. xs ++ ys) (map-map key leaf (numbers_below n)) (map-map key (spine n) (numbers_below 4)))
    (map-map key peer (numbers_below 2)))

pub names_apart : (n : ℕ) → n ≤ 96 → IsDistinct bytes_eq (map (λ (s : Site). s.name) (sites (sample_net n)))
names_apart n few =
    subst (IsDistinct bytes_eq) (keys_of (λ (s : Site). s.name) n)
    (all_apart bytes_eq n (λ k. codes "L" ++ decimal (k + 1)) (λ k. codes "S" ++ decimal (k + 1)) (λ k. codes "W" ++ decimal (k + 1))
    (λ i j less low. numbers_apart 76 i j less (omega (arith, few, low)))
    (λ i j less low. numbers_apart 83 i j less (omega (arith, low)))
    (λ i j less low. numbers_apart 87 i j less (omega (arith, low)))
    (λ i j p q. refl) (λ i j p q. refl) (λ i j p q. refl))

pub asns_apart : (n : ℕ) → n ≤ 96 → IsDistinct nat_eq (map (λ (s : Site). s.asn) (sites (sample_net n)))
asns_apart n few =
    subst (IsDistinct nat_eq) (keys_of (λ (s : Site). s.asn) n)
    (all_apart nat_eq n (λ k. 64512 + k) (λ k. 64512 + n + k) (λ k. 1001 + k)
    (λ i j less low. ne_eqb (64512 + i) (64512 + j) (λ e. omega (arith, less, e)))
    (λ i j less low. ne_eqb (64512 + n + i) (64512 + n + j) (λ e. omega (arith, less, e)))
    (λ i j less low. ne_eqb (1001 + i) (1001 + j) (λ e. omega (arith, less, e)))
    (λ i j p q. ne_eqb (64512 + i) (64512 + n + j) (λ e. omega (arith, p, e)))
    (λ i j p q. ne_eqb (64512 + i) (1001 + j) (λ e. omega (arith, q, e)))
    (λ i j p q. ne_eqb (64512 + n + i) (1001 + j) (λ e. omega (arith, q, e))))

-- the identifier of the address 10.255.c.d
abbrev identifier : ℕ → ℕ → ℕ
identifier c d = 10 * 16777216 + 255 * 65536 + c * 256 + d

pub ids_apart : (n : ℕ) → n ≤ 96 → IsDistinct nat_eq (map (λ (s : Site). s.id) (sites (sample_net n)))
ids_apart n few =
    subst (IsDistinct nat_eq) (keys_of (λ (s : Site). s.id) n)
    (all_apart nat_eq n (λ k. identifier 0 (k + 1)) (λ k. identifier 1 (k + 1)) (λ k. identifier 2 (k + 1))
    (λ i j less low. ne_eqb (identifier 0 (i + 1)) (identifier 0 (j + 1)) (λ e. omega (arith, less, e)))
    (λ i j less low. ne_eqb (identifier 1 (i + 1)) (identifier 1 (j + 1)) (λ e. omega (arith, less, e)))
    (λ i j less low. ne_eqb (identifier 2 (i + 1)) (identifier 2 (j + 1)) (λ e. omega (arith, less, e)))
    (λ i j p q. ne_eqb (identifier 0 (i + 1)) (identifier 1 (j + 1)) (λ e. omega (arith, p, few, e)))
    (λ i j p q. ne_eqb (identifier 0 (i + 1)) (identifier 2 (j + 1)) (λ e. omega (arith, p, few, e)))
    (λ i j p q. ne_eqb (identifier 1 (i + 1)) (identifier 2 (j + 1)) (λ e. omega (arith, p, e))))

-- ---- each by itself

pub router_numbers : (n : ℕ) → n ≤ 96 → AllByRecursion (λ (s : Site). IsTrue (is_router_as s.asn)) (map leaf (numbers_below n) ++ map (spine n) (numbers_below 4))
router_numbers n few =
    let P = λ (s : Site). IsTrue (is_router_as s.asn) in
    AllByRecursion-append P (map leaf (numbers_below n)) (map (spine n) (numbers_below 4))
    (each_below P leaf n (λ k low. router_as-two_octets (64512 + k) (omega arith) (omega (arith, few, low))))
    (each_below P (spine n) 4 (λ k low. router_as-two_octets (64512 + n + k) (omega arith) (omega (arith, few, low))))

pub peer_numbers : AllByRecursion (λ (s : Site). IsTrue (is_peer_as s.asn)) (map peer (numbers_below 2))
peer_numbers = each_below (λ (s : Site). IsTrue (is_peer_as s.asn)) peer 2 (λ k low. peer_as-two_octets (1001 + k) (omega arith) (omega (arith, low)))

abbrev HasId : Site → Type 0
HasId s = (s.id ≢ 0) × (s.id < 2 ^ 32)

has_id : (c d : ℕ) → c ≤ 2 → d ≤ 97 → (identifier c d ≢ 0) × (identifier c d < 2 ^ 32)
has_id c d low small = (λ e. omega (arith, e), omega (arith, low, small))

pub all_ids : (n : ℕ) → n ≤ 96 → AllByRecursion HasId (sites (sample_net n))
all_ids n few =
    AllByRecursion-append HasId (map leaf (numbers_below n) ++ map (spine n) (numbers_below 4)) (map peer (numbers_below 2))
    (AllByRecursion-append HasId (map leaf (numbers_below n)) (map (spine n) (numbers_below 4))
    (each_below HasId leaf n (λ k low. has_id 0 (k + 1) (omega arith) (omega (arith, few, low))))
    (each_below HasId (spine n) 4 (λ k low. has_id 1 (k + 1) (omega arith) (omega (arith, low)))))
    (each_below HasId peer 2 (λ k low. has_id 2 (k + 1) (omega arith) (omega (arith, low))))
