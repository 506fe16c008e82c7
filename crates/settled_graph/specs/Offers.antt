-- What locations that were settled last offer to those that are left.
use Rattle.std.specs.Prelude.{◌≡◌, ℕ, ◌<◌, ◌≤◌, Bool, true, nat_lt, IsTrue, List, length, Option, Some, None}
use Rattle.net_base.specs.Network.{PlainNet, id_of}
use Rattle.net_base.specs.declared.limits.TheConstants.{LOCATIONS}
use Rattle.graph_base.specs.Graphs.{PlainGraph}
use Rattle.graph_base.specs.Runs.{place_of}
use Rattle.settled_graph.specs.declared.offers.Offer.{Offer}
use Rattle.graph_base.specs.Preferences.{number_in}
use Rattle.settled_graph.specs.Best.{entry_at}

-- a node comes before an offer where the identifier of its location is lower
abbrev pub is_lower : PlainNet → PlainGraph → ℕ → Option Offer → Bool
is_lower net g from None = true
is_lower net g from (Some o) = nat_lt (id_of net (place_of g from)) (id_of net (place_of g o.from))

-- Of the steps that pass the test this one leads to the location, to a node of the number that is wanted there, and no such step comes from
-- a location of a lower identifier.
pub record IsLowest (net : PlainNet) (g : PlainGraph) (numbers : List ℕ) (wanted : List (Option ℕ)) (passes : ℕ → ℕ → Bool) (l : ℕ) (o : Offer) : Type 0 where
  pub step : IsTrue (passes o.from o.to)
  pub place : place_of g o.to ≡ l
  pub number : entry_at wanted l ≡ Some (number_in numbers o.to)
  pub least : (f t : ℕ) → IsTrue (passes f t) → place_of g t ≡ l → entry_at wanted l ≡ Some (number_in numbers t) → id_of net (place_of g o.from) ≤ id_of net (place_of g f)

abbrev pub IsLowestOrNone : PlainNet → PlainGraph → List ℕ → List (Option ℕ) → (ℕ → ℕ → Bool) → ℕ → Option Offer → Type 0
IsLowestOrNone net g numbers wanted passes l None = (f t : ℕ) → IsTrue (passes f t) → place_of g t ≡ l → entry_at wanted l ≡ Some (number_in numbers t) → ⊥
IsLowestOrNone net g numbers wanted passes l (Some o) = IsLowest net g numbers wanted passes l o

-- At each location the table has the offer of the lowest identifier, of the steps that pass a test.
pub record AreLowest (net : PlainNet) (g : PlainGraph) (numbers : List ℕ) (wanted : List (Option ℕ)) (passes : ℕ → ℕ → Bool) (offers : List (Option Offer)) : Type 0 where
  pub size : length offers ≡ LOCATIONS
  pub each : (l : ℕ) → l < LOCATIONS → IsLowestOrNone net g numbers wanted passes l (entry_at offers l)

-- offers come from nodes
abbrev pub AreOfNodes : PlainGraph → List (Option Offer) → Type 0
AreOfNodes g offers = (l : ℕ) (o : Offer) → entry_at offers l ≡ Some o → o.from < length g.nodes
