-- Which routers may originate which prefixes.
use Rattle.std.specs.Prelude.{ℕ, Bool, true, false, List, [], ◌∷◌, Option, Some, None}
use Rattle.std.specs.List.{flat_map, list_any}
use Rattle.net_base.specs.declared.loc.LocSet.{LocSet}
use Rattle.net_base.specs.declared.place.Place.{Place}
use Rattle.net_base.specs.Network.{PlainNet}
use Rattle.net_base.specs.Prefixes.{PlainPrefix, same_prefix}
use Rattle.policy_grammar.specs.declared.lexeme.Lexeme.{Lexeme}
use Rattle.policy_rules.specs.Origins.{has_peer}
use Rattle.policy_law.specs.Trees.{Written, define, originate, state}
use Rattle.policy_law.specs.Senses.{Sense}
use Rattle.policy_law.specs.Figures.{prefix_of}

abbrev pub if_true : Place → Bool → List Place
if_true p true = p ∷ []
if_true p false = []

abbrev pub has_peer_in : PlainNet → Option LocSet → Bool
has_peer_in net (Some s) = has_peer net s
has_peer_in net None = false

-- the place of a name that stands for a set with a peer
abbrev pub peer_named : PlainNet → Sense → Lexeme → List Place
peer_named net sense l = if_true l.place (has_peer_in net (sense l))

-- each such name behind `at`
abbrev pub peers_named : PlainNet → Sense → Written → List Place
peers_named net sense (define group members) = []
peers_named net sense (originate prefix names) = flat_map (peer_named net sense) names
peers_named net sense (state patterns e from) = []

-- the item originates this prefix
abbrev pub originates : List ℕ → PlainPrefix → Written → Bool
originates bytes p (define group members) = false
originates bytes p (originate prefix names) = same_prefix p (prefix_of bytes prefix)
originates bytes p (state patterns e from) = false

-- the place of a prefix that an item above originates
abbrev pub originated_again : List ℕ → List Written → Written → List Place
originated_again bytes above' (define group members) = []
originated_again bytes above' (originate prefix names) = if_true prefix.place (list_any (originates bytes (prefix_of bytes prefix)) above')
originated_again bytes above' (state patterns e from) = []
