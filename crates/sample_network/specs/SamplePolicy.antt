-- The policy of the sample: each leaf originates a prefix of its own, for which no leaf carries the traffic of others; all
-- else leaves by the first peer, and by the second where it can't, again without transit through leaves.
use Rattle.std.specs.Prelude.{ℕ, ◌+◌, ◌&&◌, nat_le, nat_lt, [], ◌∷◌, map}
use Rattle.net_base.specs.declared.loc.LocSet.{LocSet}
use Rattle.net_base.specs.Locations.{numbers_below}
use Rattle.net_base.specs.Prefixes.{PlainPrefix, PlainPattern, only}
use Rattle.net_base.specs.SetOperations.{no_location, with_location}
use Rattle.net_base.specs.Sets.{set_of}
use Rattle.policy_words.specs.declared.word.SetCall.TheVariants.{NoTransit, Exit}
use Rattle.policy_base.specs.declared.call.Call.TheVariants.{Of}
use Rattle.policy_base.specs.declared.policy.FromSet.TheVariants as from_set
use Rattle.policy_base.specs.declared.policy.Origin.{Origin}
use Rattle.policy_base.specs.Policies.{Ranking, call, calls, both, PlainStatement, PlainPolicy}
use Rattle.sample_network.specs.Network.{dotted, peer_at}

-- one location alone
abbrev pub alone : ℕ → LocSet
alone l = with_location no_location l

-- all leaves: the first n locations
abbrev pub leaves : ℕ → LocSet
leaves n = set_of (λ l. nat_le 0 l && nat_lt l n)

-- 10.0.1.0/24 is that of the first leaf
abbrev pub leaf_prefix : ℕ → PlainPrefix
leaf_prefix k = record { bits = dotted 10 0 (k + 1) 0; len = 24 }

abbrev pub leaf_origin : ℕ → Origin
leaf_origin k = record { prefix = leaf_prefix k; at = alone k }

-- the pattern that contains one leaf's prefix alone
abbrev pub leaf_pattern : ℕ → PlainPattern
leaf_pattern k = only (leaf_prefix k)

abbrev pub all_prefixes : PlainPattern
all_prefixes = record { base = record { bits = 0; len = 0 }; upto = 32 }

-- `notransit` of all leaves
abbrev pub no_transit : ℕ → Ranking
no_transit n = call (Of NoTransit (leaves n))

-- `exit(W1 >> W2)`
abbrev pub ranked_exits : ℕ → Ranking
ranked_exits n = calls (map (λ k. Of Exit (alone (peer_at n k))) (numbers_below 2))

abbrev pub inner_statement : ℕ → PlainStatement
inner_statement n = record { patterns = map leaf_pattern (numbers_below n); ranked = no_transit n; from = from_set.Any }

abbrev pub outer_statement : ℕ → PlainStatement
outer_statement n = record { patterns = all_prefixes ∷ []; ranked = both (ranked_exits n) (no_transit n); from = from_set.Any }

abbrev pub sample_policy : ℕ → PlainPolicy
sample_policy n = record {
  origins = map leaf_origin (numbers_below n);
  statements = inner_statement n ∷ outer_statement n ∷ [];
}
