-- What nodes offer at locations, and whether one node offers at least as well as another wherever that one offers.
use Rattle.std.specs.Prelude.{ℕ, ◌-◌, Bool, false, ◌&&◌, ◌==◌, nat_le, IsTrue, List, [], Option, Some, None, option_map, slice_index_or, if◌then◌else◌}
use Rattle.std.specs.List.{list_any}
use Rattle.net_base.specs.Network.{PlainNet}
use Rattle.net_base.specs.Sets.{holds}
use Rattle.net_base.specs.declared.loc.LocSet.{LocSet}
use Rattle.graph_base.specs.Graphs.{PlainGraph}
use Rattle.graph_base.specs.Rules.{IsOver}
use Rattle.graph_base.specs.Runs.{place_of, is_listener, rank_at}
use Rattle.graph_base.specs.Preferences.{number_in}
use Rattle.preference_check.specs.declared.offers.Offer.{Offer}
use Rattle.preference_check.specs.declared.offers.Towards.{Towards}
use Rattle.preference_check.specs.declared.offers.Towards.TheVariants.{Routers, Listeners}

-- an offer at a location for this cost or less
abbrev pub is_offer : ℕ → ℕ → Offer → Bool
is_offer at cost o = o.at == at && nat_le o.cost cost

abbrev pub is_offered : List Offer → ℕ → ℕ → Bool
is_offered offers at cost = list_any (is_offer at cost) offers

-- the offers of a node
abbrev pub offers_of : List (List Offer) → ℕ → List Offer
offers_of offers n = slice_index_or offers n []

-- the first list offers wherever the second one does, for no more
abbrev pub Matches : List Offer → List Offer → Type 0
Matches one other = (at cost : ℕ) → IsTrue (is_offered other at cost) → IsTrue (is_offered one at cost)

-- a node matches each node over which it stands
abbrev pub KeepsOffers : PlainNet → PlainGraph → (ℕ → ℕ) → List (List Offer) → ℕ → ℕ → Type 0
KeepsOffers net g number offers m n = IsOver net g number m n → Matches (offers_of offers m) (offers_of offers n)

-- the rank of a node as an offer at its location
abbrev pub offer_of_rank : PlainGraph → ℕ → Option Offer
offer_of_rank g n = option_map (λ rank. record { at = place_of g n; cost = rank }) (rank_at g n)

-- what a step to a node is worth: to one that doesn't hear the more the greater its number, to one that does its rank
abbrev pub offer_by_step : PlainGraph → List ℕ → Towards → ℕ → Option Offer
offer_by_step g numbers Routers t = if is_listener g t then None else Some (record { at = place_of g t; cost = 4294967295 - number_in numbers t })
offer_by_step g numbers Listeners t = if is_listener g t then offer_of_rank g t else None

-- what a node is worth at a claimed location
abbrev pub offer_by_rank : PlainGraph → LocSet → ℕ → Option Offer
offer_by_rank g claimed n = if holds claimed (place_of g n) then offer_of_rank g n else None

-- whether there is an offer at a location for this cost or less
abbrev pub is_good : Option Offer → ℕ → ℕ → Bool
is_good None at cost = false
is_good (Some o) at cost = is_offer at cost o
