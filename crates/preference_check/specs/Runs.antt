-- The nodes of a router in ascending order of number.
use Rattle.std.specs.Prelude.{◌≡◌, ℕ, ◌<◌, ◌≤◌, Bool, ◌&&◌, ◌==◌, nat_lt, IsTrue, Option, List, length, slice_index_or}
use Rattle.std.specs.List.{list_any}
use Rattle.std.specs.List.Sorted.{IsNonDecreasingBy}
use Rattle.graph_base.specs.Graphs.{PlainGraph}
use Rattle.graph_base.specs.Runs.{place_of}
use Rattle.graph_base.specs.Preferences.{number_in}
use Rattle.preference_check.specs.Offers.{Matches, is_offered, offers_of}
use Rattle.preference_check.specs.Rows.{has_upto}
use Rattle.preference_check.specs.declared.offers.Offer.{Offer}
use Rattle.preference_check.specs.declared.runs.Numbered.{Numbered}

-- an entry is of this node, with this number
abbrev pub is_entry : ℕ → ℕ → Numbered → Bool
is_entry n number x = x.node == n && x.number == number

abbrev pub has_node : List Numbered → ℕ → ℕ → Bool
has_node run n number = list_any (is_entry n number) run

-- a node stands at a location, and this is its number
abbrev pub is_node_at : PlainGraph → List ℕ → ℕ → ℕ → ℕ → Bool
is_node_at g numbers l n number = nat_lt n (length g.nodes) && (place_of g n == l && number_in numbers n == number)

-- the nodes at a location
abbrev pub IsRunAt : PlainGraph → List ℕ → ℕ → List Numbered → Type 0
IsRunAt g numbers l run = (n number : ℕ) → has_node run n number ≡ is_node_at g numbers l n number

-- numbers ascend
abbrev pub IsAscending : List Numbered → Type 0
IsAscending run = IsNonDecreasingBy (λ (x : Numbered). x.number) run

-- a row has numbers as low as these offers
abbrev pub IsMet : List Offer → List (Option ℕ) → Type 0
IsMet offers row = (at cost : ℕ) → IsTrue (is_offered offers at cost) → IsTrue (has_upto row at cost)

-- a row has numbers as low as the offers of the first nodes of a run
abbrev pub AreTaken : List (List Offer) → List Numbered → ℕ → List (Option ℕ) → Type 0
AreTaken offers run count row = (j : ℕ) (d : Numbered) → j < count → IsMet (offers_of offers (slice_index_or run j d).node) row

-- the first nodes of a run are those with no greater number
abbrev pub AreUpto : List Numbered → ℕ → ℕ → Type 0
AreUpto run count number = (j : ℕ) (d : Numbered) → count ≤ j → j < length run → number < (slice_index_or run j d).number

-- a node of a run matches each of its nodes that has no greater number
pub record IsMatching (offers : List (List Offer)) (run : List Numbered) (m : ℕ) : Type 0 where
  pub number : ℕ
  pub here : IsTrue (has_node run m number)
  pub matches : (n other : ℕ) → IsTrue (has_node run n other) → other ≤ number → Matches (offers_of offers m) (offers_of offers n)
