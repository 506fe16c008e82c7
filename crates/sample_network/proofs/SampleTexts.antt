-- The text of the sample's policy is short.
use Rattle.std.proofs.Common.{◌≡◌, ℕ, ◌+◌, ◌*◌, ◌/◌, ◌%◌, ◌≤◌, ◌<◌, ◌^◌, Bool, true, false, List, [], ◌∷◌, ◌++◌, map, length, suc, arith, length-append}
use Rattle.std.specs.Prelude.{codes, if◌then◌else◌}
use Rattle.std.specs.Fmt.{decimal}
use Rattle.std.specs.List.{AllByRecursion, flat_map}
use Rattle.std.proofs.lemmas.Fmt.{length-decimal-le}
use Rattle.std.proofs.lemmas.Grind.{common_steps}
use Rattle.std.proofs.lemmas.List.{length-map}
use Rattle.list_law.proofs.Each.{AllByRecursion-append, AllByRecursion-weaker}
use Rattle.net_base.specs.declared.loc.LocSet.{LocSet}
use Rattle.net_base.specs.declared.net.Site.{Site}
use Rattle.net_base.specs.Locations.{numbers_below}
use Rattle.net_base.specs.Network.{sites}
use Rattle.net_base.specs.Prefixes.{PlainPattern, PlainPrefix}
use Rattle.net_base.specs.Sets.{holds}
use Rattle.net_base.proofs.NumbersBelow.{length-numbers_below}
use Rattle.policy_words.specs.declared.word.SetCall.TheVariants.{Exit, NoTransit}
use Rattle.policy_base.specs.declared.call.Call.TheVariants.{Of}
use Rattle.policy_base.specs.declared.policy.Origin.{Origin}
use Rattle.policy_text.specs.PolicyText.{are_all, call_text, calls_text, joined_names, names_from, names_in, next_name, is_everything, next_pattern, origin_line}
use Rattle.policy_text.specs.PolicyText.{patterns_text, policy_text, set_text, statement_line}
use Rattle.text_parts.specs.Texts.{pattern_text, prefix_text}
use Rattle.sample_network.specs.Network.{leaf, peer, peer_at, sample_net, spine}
use Rattle.sample_network.specs.SamplePolicy.{alone, inner_statement, leaf_origin, leaf_pattern, leaf_prefix, leaves, outer_statement, sample_policy}
use Rattle.sample_network.proofs.Below.{each_below}
use Rattle.sample_network.proofs.SampleNet.{router_count}

-- as long as its parts together
flat_short : {X A : Type 0} (m : ℕ) (f : X → List A) (xs : List X) → AllByRecursion (λ x. length (f x) ≤ m) xs → length (flat_map f xs) ≤ length xs * m
flat_short m f [] h = omega arith
flat_short m f (x ∷ xs) h = grind (arith, common_steps, h.0, flat_short m f xs h.1)

-- ---- names

abbrev HasShortName : Site → Type 0
HasShortName s = length s.name ≤ 4

abbrev AreShort : List (List ℕ) → Type 0
AreShort names = AllByRecursion (λ (name : List ℕ). length name ≤ 4) names

short_number : (n : ℕ) → n < 1000 → length (decimal n) ≤ 3
short_number n low = length-decimal-le 3 n (omega arith) (omega (arith, low)) (omega (arith, low))

sites_short : (n : ℕ) → n ≤ 96 → AllByRecursion HasShortName (sites (sample_net n))
sites_short n few =
    AllByRecursion-append HasShortName (map leaf (numbers_below n) ++ map (spine n) (numbers_below 4)) (map peer (numbers_below 2))
    (AllByRecursion-append HasShortName (map leaf (numbers_below n)) (map (spine n) (numbers_below 4))
    (each_below HasShortName leaf n (λ k low. omega (arith, short_number (k + 1) (omega (arith, few, low)))))
    (each_below HasShortName (spine n) 4 (λ k low. omega (arith, short_number (k + 1) (omega (arith, low))))))
    (each_below HasShortName peer 2 (λ k low. omega (arith, short_number (k + 1) (omega (arith, low)))))

site_count : (n : ℕ) → length (sites (sample_net n)) ≡ n + 6
site_count n = omega (arith, length-append (map leaf (numbers_below n) ++ map (spine n) (numbers_below 4)) (map peer (numbers_below 2)), router_count n)

-- the names of a set
names_short : (s : LocSet) (l : ℕ) (xs : List Site) → AllByRecursion HasShortName xs → AreShort (names_from s l xs) × (length (names_from s l xs) ≤ length xs)
names_short s l [] short = (tt, omega arith)
names_short s l (x ∷ xs) short = by (holds s l) (names_short s (l + 1) xs short.1)
  where
    by : (b : Bool) → AreShort (names_from s (l + 1) xs) × (length (names_from s (l + 1) xs) ≤ length xs)
        → AreShort (if b then x.name ∷ names_from s (l + 1) xs else names_from s (l + 1) xs) × (length (if b then x.name ∷ names_from s (l + 1) xs else names_from s (l + 1) xs) ≤ suc (length xs))
    by true more = ((short.0, more.0), omega (arith, more.1))
    by false more = (more.0, omega (arith, more.1))

joined_short : (names : List (List ℕ)) → AreShort names → length (joined_names names) ≤ length names * 6
unfolding joined_names
joined_short [] short = omega arith
joined_short (n ∷ ns) short =
    let rest = flat_short 6 next_name ns (AllByRecursion-weaker (λ (name : List ℕ). length name ≤ 4) (λ name. length (next_name name) ≤ 6) ns (λ name h. omega (arith, h)) short.1) in
    omega (arith, short.0, rest, length-append n (flat_map next_name ns))

module _ (n : ℕ) (few : n ≤ 96) where
  names_in_short : (s : LocSet) → length (joined_names (names_in (sample_net n) s)) ≤ 612
  names_in_short s =
      let short = names_short s 0 (sites (sample_net n)) (sites_short n few) in
      omega (arith, few, joined_short (names_in (sample_net n) s) short.0, short.1, site_count n)

  set_short : (s : LocSet) → length (set_text (sample_net n) (names_in (sample_net n) s)) ≤ 612
  unfolding set_text
  set_short s = by (are_all (sample_net n) (names_in (sample_net n) s))
    where
      by : (b : Bool) → length (if b then codes "any" else joined_names (names_in (sample_net n) s)) ≤ 612
      by true = omega arith
      by false = names_in_short s

-- ---- prefixes

five_short : (a b c d e : List ℕ) → length a ≤ 3 → length b ≤ 3 → length c ≤ 3 → length d ≤ 3 → length e ≤ 3
    → length (a ++ codes "." ++ b ++ codes "." ++ c ++ codes "." ++ d ++ codes "/" ++ e) ≤ 19
five_short a b c d e p q r s t =
    let one = length-append a (codes ".") in
    let two = length-append (a ++ codes ".") b in
    let three = length-append (a ++ codes "." ++ b) (codes ".") in
    let four = length-append (a ++ codes "." ++ b ++ codes ".") c in
    let five = length-append (a ++ codes "." ++ b ++ codes "." ++ c) (codes ".") in
    let six = length-append (a ++ codes "." ++ b ++ codes "." ++ c ++ codes ".") d in
    let seven = length-append (a ++ codes "." ++ b ++ codes "." ++ c ++ codes "." ++ d) (codes "/") in
    let eight = length-append (a ++ codes "." ++ b ++ codes "." ++ c ++ codes "." ++ d ++ codes "/") e in
    omega (arith, p, q, r, s, t, one, two, three, four, five, six, seven, eight)

prefix_short : (p : PlainPrefix) → p.bits < 2 ^ 32 → p.len < 1000 → length (prefix_text p) ≤ 19
prefix_short p wide len =
    five_short (decimal (p.bits / 16777216)) (decimal (p.bits / 65536 % 256)) (decimal (p.bits / 256 % 256)) (decimal (p.bits % 256)) (decimal p.len)
    (short_number (p.bits / 16777216) (omega (arith, wide))) (short_number (p.bits / 65536 % 256) (omega arith))
    (short_number (p.bits / 256 % 256) (omega arith)) (short_number (p.bits % 256) (omega arith))
    (short_number p.len len)

leaf_prefix_short : (k : ℕ) → k < 96 → length (prefix_text (leaf_prefix k)) ≤ 19
leaf_prefix_short k low = prefix_short (leaf_prefix k) (omega (arith, low)) (omega arith)

patterns_short : (ps : List PlainPattern) → AllByRecursion (λ (p : PlainPattern). length (pattern_text p) ≤ 19) ps → length (patterns_text ps) ≤ length ps * 23
unfolding patterns_text
patterns_short [] short = omega arith
patterns_short (p ∷ []) short = by (is_everything p)
  where
    by : (b : Bool) → length (if b then codes "true" else pattern_text p) ≤ 23
    by true = omega arith
    by false = omega (arith, short.0)
patterns_short (p ∷ q ∷ ps) short =
    let rest = flat_short 23 next_pattern (q ∷ ps) (AllByRecursion-weaker (λ (x : PlainPattern). length (pattern_text x) ≤ 19)
    (λ x. length (next_pattern x) ≤ 23) (q ∷ ps) (λ x h. omega (arith, h)) short.1) in
    omega (arith, short.0, rest, length-append (pattern_text p) (flat_map next_pattern (q ∷ ps)))

-- ---- lines

line_short : (prefix names : List ℕ) → length prefix ≤ 19 → length names ≤ 612 → length (codes "originate " ++ prefix ++ codes " at " ++ names ++ codes ";\n") ≤ 650
line_short prefix names p q = grind (arith, common_steps, p, q)

module _ (n : ℕ) (few : n ≤ 96) where
  origin_short : (k : ℕ) → k < n → length (origin_line (sample_net n) (leaf_origin k)) ≤ 650
  unfolding origin_line
  origin_short k low = line_short (prefix_text (leaf_prefix k)) (joined_names (names_in (sample_net n) (alone k))) (leaf_prefix_short k (omega (arith, few, low))) (names_in_short n few (alone k))

  no_transit_short : length (call_text (sample_net n) (Of NoTransit (leaves n))) ≤ 630
  unfolding call_text
  no_transit_short = grind (arith, common_steps, set_short n few (leaves n))

  exits_short : length (calls_text (sample_net n) (Of Exit (alone (peer_at n 0)) ∷ Of Exit (alone (peer_at n 1)) ∷ [])) ≤ 1240
  unfolding calls_text
  exits_short = grind (arith, common_steps, set_short n few (alone (peer_at n 0)), set_short n few (alone (peer_at n 1)))

  inner_short : length (statement_line (sample_net n) (inner_statement n)) ≤ 3000
  unfolding statement_line
  inner_short =
      let patterns = patterns_short (map leaf_pattern (numbers_below n))
      (each_below (λ (p : PlainPattern). length (pattern_text p) ≤ 19) leaf_pattern n (λ k low. leaf_prefix_short k (omega (arith, few, low)))) in
      let count : length (map leaf_pattern (numbers_below n)) ≤ 96 = omega (arith, few, length-map (numbers_below n) leaf_pattern, length-numbers_below n) in
      grind (arith, common_steps, patterns, count, no_transit_short)

  outer_short : length (statement_line (sample_net n) (outer_statement n)) ≤ 2000
  unfolding statement_line patterns_text
  outer_short = grind (arith, common_steps, exits_short, no_transit_short)

  -- it is no longer than an input may be
  pub policy_short : length (policy_text (sample_net n) (sample_policy n)) ≤ 33554432
  policy_short =
      let origins = flat_short 650 (origin_line (sample_net n)) (map leaf_origin (numbers_below n))
      (each_below (λ (o : Origin). length (origin_line (sample_net n) o) ≤ 650) leaf_origin n origin_short) in
      let count : length (map leaf_origin (numbers_below n)) ≤ 96 = omega (arith, few, length-map (numbers_below n) leaf_origin, length-numbers_below n) in
      grind (arith, common_steps, origins, count, inner_short, outer_short)
