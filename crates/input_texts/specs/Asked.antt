-- Which network and which policy the texts under names spell, and what a third text spells for the network.
use Rattle.std.specs.Prelude.{◌≡◌, ℕ, List, [], ◌∷◌, Result, Ok}
use Rattle.net_base.specs.Network.{PlainNet}
use Rattle.policy_base.specs.Policies.{PlainPolicy}
use Rattle.topology.specs.Topology.{spelled as net_spelled_by}
use Rattle.policy_parser.specs.Spelled.{spelled as policy_spelled_by}
use Rattle.run_base.specs.Reading.{Holds, AllHeld}

-- The bytes of the first two names spell this network and this policy for it.
pub record SpellFor (holds : Holds) (names : List (List ℕ)) (net : PlainNet) (policy : PlainPolicy) : Type 0 where
  pub topology : List ℕ
  pub policy_text : List ℕ
  pub more : List (List ℕ)
  pub held : AllHeld holds names (topology ∷ policy_text ∷ more)
  pub net_spelled : net_spelled_by topology ≡ Ok net
  pub policy_spelled : policy_spelled_by net policy_text ≡ Ok policy

-- The bytes of the third and last name spell this value for the network, too: a scenario, or events.
pub record SpellAlso {V F : Type 0} (spelled_by : PlainNet → List ℕ → Result V F) (holds : Holds) (names : List (List ℕ)) (net : PlainNet) (policy : PlainPolicy) (value : V) : Type 0 where
  pub spell : SpellFor holds names net policy
  pub third : List ℕ
  pub more : spell.more ≡ third ∷ []
  pub spelled : spelled_by net third ≡ Ok value
