-- Places in the order of the text.
use Rattle.std.specs.Prelude.{ℕ, List, [], ◌∷◌}
use Rattle.net_base.specs.declared.place.Place.{Place}
use Rattle.net_base.specs.Network.{PlainNet}
use Rattle.policy_grammar.specs.declared.lexeme.Lexeme.{Lexeme}
use Rattle.policy_law.specs.Trees.{Written}
use Rattle.policy_law.specs.Meaning.{unknown_names, groups_again, all_wrong_figures, all_ranks_under, all_peers_named, prefixes_again}

-- Some of these tokens stand at these places, in their order.
pub data StandIn : List Place → List Lexeme → Type 0 where
  none : StandIn [] []
  other : {l : Lexeme} {ps : List Place} {ls : List Lexeme} → StandIn ps ls → StandIn ps (l ∷ ls)
  here : {l : Lexeme} {ps : List Place} {ls : List Lexeme} → StandIn ps ls → StandIn (l.place ∷ ps) (l ∷ ls)

-- Of each rule, the places that break it stand in the order of these tokens: so the first of them is told.
pub record PlacesInOrder (net : PlainNet) (bytes : List ℕ) (items : List Written) (tokens : List Lexeme) : Type 0 where
  pub unknown : StandIn (unknown_names net bytes items) tokens
  pub twice : StandIn (groups_again net bytes items) tokens
  pub figures : StandIn (all_wrong_figures bytes items) tokens
  pub ranks : StandIn (all_ranks_under items) tokens
  pub peers : StandIn (all_peers_named net bytes items) tokens
  pub originated : StandIn (prefixes_again bytes items) tokens
