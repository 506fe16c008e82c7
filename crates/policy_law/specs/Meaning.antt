-- What a policy text means.
use Rattle.std.specs.Prelude.{ℕ, List, [], Result, Ok}
use Rattle.std.specs.List.{flat_map}
use Rattle.net_base.specs.declared.place.Place.{Place}
use Rattle.net_base.specs.Network.{PlainNet}
use Rattle.net_base.specs.Steps.{◌>>=◌}
use Rattle.policy_tokens.specs.declared.fault.PolicyFault.{PolicyFault}
use Rattle.policy_tokens.specs.declared.fault.PolicyFault.TheVariants.{Unknown, Twice, PrefixBad, RankUnder, OriginPeer, OriginTwice}
use Rattle.policy_base.specs.Policies.{PlainPolicy}
use Rattle.policy_law.specs.Told.{told}
use Rattle.policy_law.specs.Trees.{Written}
use Rattle.policy_law.specs.Senses.{below, sense_of, unknown_in_item, named_again, item_by_item}
use Rattle.policy_law.specs.Figures.{wrong_figures}
use Rattle.policy_law.specs.Ranks.{ranks_under_in}
use Rattle.policy_law.specs.Origins.{peers_named, originated_again}
use Rattle.policy_law.specs.Values.{origins, policy}
use Rattle.policy_law.specs.Limits.{limits_passed}

-- ---- the places that break a rule, in the order of the text

-- each use of a name that stands for nothing above it
abbrev pub unknown_names : PlainNet → List ℕ → List Written → List Place
unknown_names net bytes items = item_by_item (λ above. unknown_in_item (below net bytes above)) [] items

-- each group whose name stands for something above it
abbrev pub groups_again : PlainNet → List ℕ → List Written → List Place
groups_again net bytes items = item_by_item (λ above. named_again (below net bytes above)) [] items

-- each figure that is no prefix or no length
abbrev pub all_wrong_figures : List ℕ → List Written → List Place
all_wrong_figures bytes items = flat_map (wrong_figures bytes) items

-- each `>>` under an `or` or a `not`
abbrev pub all_ranks_under : List Written → List Place
all_ranks_under items = flat_map ranks_under_in items

-- each name behind `at` that stands for a peer, alone or with others
abbrev pub all_peers_named : PlainNet → List ℕ → List Written → List Place
all_peers_named net bytes items = flat_map (peers_named net (sense_of net bytes items)) items

-- each prefix that is originated above
abbrev pub prefixes_again : List ℕ → List Written → List Place
prefixes_again bytes items = item_by_item (originated_again bytes) [] items

-- ---- the policy

-- The policy that some items mean for a network, or the first rule here that they break, at the first place that breaks it:
-- each name that is used stands for something above, a group has a name of its own, each figure is a prefix or a length, no
-- `>>` stands under an `or` or a `not`, only routers originate, each prefix is originated once, and no limit is passed.
abbrev pub meaning : PlainNet → List ℕ → List Written → Result PlainPolicy PolicyFault
meaning net bytes items = do
  _ ← told Unknown (unknown_names net bytes items)
  _ ← told Twice (groups_again net bytes items)
  _ ← told PrefixBad (all_wrong_figures bytes items)
  _ ← told RankUnder (all_ranks_under items)
  _ ← told OriginPeer (all_peers_named net bytes items)
  _ ← told OriginTwice (prefixes_again bytes items)
  _ ← told (λ e. e) (limits_passed (origins bytes (sense_of net bytes items) items) items)
  Ok (policy net bytes (sense_of net bytes items) items)
