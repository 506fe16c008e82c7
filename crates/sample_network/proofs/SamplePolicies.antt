-- The policy of the sample keeps the limits, and has a text.
use Rattle.std.proofs.Common.{◌≡◌, ℕ, ◌+◌, ◌*◌, ◌≤◌, ◌<◌, true, false, List, [], ◌∷◌, map, length, refl, sym, ap, arith, subst, inl}
use Rattle.std.specs.Prelude.{◌≢◌, Ok, sum_by}
use Rattle.std.specs.List.{IsDistinct}
use Rattle.std.proofs.lemmas.Bool.{lt-ltb, ltb-true, ne_eqb}
use Rattle.std.proofs.lemmas.List.Elements.{All-from_recursion}
use Rattle.std.proofs.lemmas.List.{length-map}
use Rattle.std.proofs.lemmas.List.Sums.{sum_by-le}
use Rattle.list_law.proofs.Changed.{map-map}
use Rattle.net_base.specs.Locations.{numbers_below}
use Rattle.net_base.specs.Network.{PlainNet, is_location, is_router}
use Rattle.net_base.specs.Prefixes.{same_prefix}
use Rattle.net_base.specs.SetOperations.{size_of}
use Rattle.net_base.proofs.NumbersBelow.{length-numbers_below}
use Rattle.policy_base.specs.declared.policy.Origin.{Origin}
use Rattle.policy_base.specs.declared.policy.Statement.{Statement}
use Rattle.policy_base.specs.Policies.{IsPolicy, PlainPolicy, plain_statement, policy_of}
use Rattle.policy_parser.specs.Spelled.{spelled}
use Rattle.policy_text.specs.Printable.{IsCallSet, IsPrintable, IsPrintableOrigin}
use Rattle.sample_network.specs.Network.{IsSampleNumber, peer_at, sample_net}
use Rattle.sample_network.specs.SamplePolicy.{all_prefixes, alone, inner_statement, leaf_origin, leaf_pattern, leaf_prefix, leaves, outer_statement, sample_policy}
use Rattle.sample_network.proofs.Below.{distinct_below, each_below}
use Rattle.sample_network.proofs.SampleNet.{router_count}
use Rattle.sample_network.proofs.SampleSets.{alone_only, alone_size, alone_some, leaves_only, leaves_some}

-- ---- prefixes

prefixes_apart : (i j : ℕ) → i < j → same_prefix (leaf_prefix i) (leaf_prefix j) ≡ false
prefixes_apart i j less = rw (ne_eqb (10 * 16777216 + 0 * 65536 + (i + 1) * 256 + 0) (10 * 16777216 + 0 * 65536 + (j + 1) * 256 + 0) (λ e. omega (arith, less, e))) refl

-- ---- the limits

sizes : (n : ℕ) → n ≤ 96 → sum_by (λ (o : Origin). size_of o.at) (map leaf_origin (numbers_below n)) ≤ length (map leaf_origin (numbers_below n)) * 64
sizes n few =
    sum_by-le (λ (o : Origin). size_of o.at) 64 (map leaf_origin (numbers_below n))
    (All-from_recursion (λ (o : Origin). size_of o.at ≤ 64) (map leaf_origin (numbers_below n))
    (each_below (λ (o : Origin). size_of o.at ≤ 64) leaf_origin n (λ k low. alone_size k (omega (arith, few, low)))))

pub is_policy : (n : ℕ) → n ≤ 96 → IsPolicy (sample_policy n)
is_policy n few = record {
  statements = omega arith;
  patterns = omega (arith, few, length-map (numbers_below n) leaf_pattern, length-numbers_below n);
  prefixes = omega (arith, few, length-map (numbers_below n) leaf_origin, length-numbers_below n);
  pairs = omega (arith, few, sizes n few, length-map (numbers_below n) leaf_origin, length-numbers_below n);
  once = subst (IsDistinct same_prefix) (sym (map-map (λ (o : Origin). o.prefix) leaf_origin (numbers_below n))) (distinct_below same_prefix leaf_prefix n (λ i j less low. prefixes_apart i j less));
}

-- and so does what has its parts
pub made_policy : (n : ℕ) → n ≤ 96 → (origins : List Origin) (statements : List Statement) → origins ≡ map leaf_origin (numbers_below n)
    → map plain_statement statements ≡ inner_statement n ∷ outer_statement n ∷ []
    → IsPolicy (policy_of (record { origins = origins; statements = statements }))
made_policy n few origins statements a b = rw (a, b) (is_policy n few)

-- ---- the text

module _ (n : ℕ) (is : IsSampleNumber n) where
  few : n ≤ 96
  few = is.1

  total : length (sample_net n).routers + length (sample_net n).peers ≡ n + 6
  total = omega (arith, router_count n)

  known : (l : ℕ) → l < n + 6 → is_location (sample_net n) l ≡ true
  known l low = lt-ltb l _ (omega (arith, low, total))

  leaf_set : IsCallSet (sample_net n) (leaves n)
  leaf_set = (leaves_only (is_location (sample_net n)) n (λ l low. known l (omega (arith, ltb-true l n low))), inl (leaves_some n (omega (arith, is.0))))

  peer_set : (k : ℕ) → k < 2 → IsCallSet (sample_net n) (alone (peer_at n k))
  peer_set k low = (alone_only (is_location (sample_net n)) (peer_at n k) (known (peer_at n k) (omega (arith, low))), inl (alone_some (peer_at n k) (omega (arith, low, few))))

  leaf_origin_is : (k : ℕ) → k < n → IsPrintableOrigin (sample_net n) (leaf_origin k)
  leaf_origin_is k low = (alone_only (is_router (sample_net n)) k (lt-ltb k _ (omega (arith, low, router_count n))), alone_some k (omega (arith, low, few)))

  some_pattern : map leaf_pattern (numbers_below n) ≢ []
  some_pattern none = omega (arith, is.0, ap length none, length-map (numbers_below n) leaf_pattern, length-numbers_below n)

  no_list : {A : Type 0} (x : A) (xs : List A) → x ∷ xs ≢ []
  no_list x xs e = cc

  pub is_printable : IsPrintable (sample_net n) (sample_policy n)
  is_printable = record {
    limits = is_policy n few;
    origins = each_below (IsPrintableOrigin (sample_net n)) leaf_origin n leaf_origin_is;
    statements = (
      record { patterns = some_pattern; ranked = leaf_set; brackets = omega arith; calls = omega arith; from = tt },
      (
        record {
          patterns = no_list all_prefixes [];
          ranked = ((omega arith, ((refl, refl, peer_set 0 (omega arith)), ((refl, refl, peer_set 1 (omega arith)), tt))), leaf_set);
          brackets = omega arith;
          calls = omega arith;
          from = tt;
        },
        tt,
      ),
    );
  }

-- a text that is read again where it can be is read as the policy
pub is_read : (n : ℕ) → IsSampleNumber n → (net : PlainNet) (policy : PlainPolicy) (text : List ℕ) → net ≡ sample_net n → policy ≡ sample_policy n
    → (IsPrintable net policy → spelled net text ≡ Ok policy) → spelled (sample_net n) text ≡ Ok (sample_policy n)
is_read n is net policy text a b read =
    let printable = subst (λ (m : PlainNet). IsPrintable m policy) (sym a) (subst (λ (p : PlainPolicy). IsPrintable (sample_net n) p) (sym b) (is_printable n is)) in
    subst (λ (m : PlainNet). spelled m text ≡ Ok (sample_policy n)) a (subst (λ (p : PlainPolicy). spelled net text ≡ Ok p) b (read printable))
