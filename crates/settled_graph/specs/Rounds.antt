-- What a round makes of offers.
use Rattle.std.specs.Prelude.{◌≡◌, ◌↔◌, ℕ, ◌+◌, ◌<◌, IsTrue, List, [], ◌∷◌, length, Option, Some, None, option_map, is_some, if◌then◌else◌}
use Rattle.std.specs.List.{count_by}
use Rattle.net_base.specs.declared.limits.TheConstants.{LOCATIONS}
use Rattle.graph_base.specs.Graphs.{PlainGraph}
use Rattle.graph_base.specs.Runs.{place_of, is_start}
use Rattle.reach_prune.specs.Searches.{is_among}
use Rattle.settled_graph.specs.declared.offers.Offer.{Offer}
use Rattle.settled_graph.specs.declared.settled.Settled.{Settled}
use Rattle.settled_graph.specs.Best.{entry_at}

-- each start is settled with the path of its location alone, and nothing else is
pub record AreOpening (g : PlainGraph) (routes : List (Option Settled)) : Type 0 where
  pub size : length routes ≡ LOCATIONS
  pub starts : (s : ℕ) → IsTrue (is_start g s) → IsTrue (is_some (entry_at routes (place_of g s)))
  pub only : (l : ℕ) (x : Settled) → entry_at routes l ≡ Some x → IsTrue (is_start g x.node) × (place_of g x.node ≡ l) × (x.path ≡ l ∷ [])

-- the route that a location takes of an offer: the path of the node's location with itself in front
abbrev pub taken : PlainGraph → List (Option Settled) → ℕ → Offer → Option Settled
taken g routes l o = option_map (λ (x : Settled). record { path = l ∷ x.path; node = o.to }) (entry_at routes (place_of g o.from))

-- what a location has after a round
abbrev pub after_offer : PlainGraph → List (Option Settled) → ℕ → Option Offer → Option Settled
after_offer g routes l None = entry_at routes l
after_offer g routes l (Some o) = taken g routes l o

-- an offer is for a location that waits, from one that has none
pub record IsFit (g : PlainGraph) (wanted : List (Option ℕ)) (offers : List (Option Offer)) (l : ℕ) (o : Offer) : Type 0 where
  pub from : o.from < length g.nodes
  pub waits : IsTrue (is_some (entry_at wanted l))
  pub apart : entry_at offers (place_of g o.from) ≡ None

abbrev pub AreFit : PlainGraph → List (Option ℕ) → List (Option Offer) → Type 0
AreFit g wanted offers = (l : ℕ) (o : Offer) → entry_at offers l ≡ Some o → IsFit g wanted offers l o

-- After a round each location with an offer has the route that it took, waits no more, and its node is of the next front.
pub record IsRound (g : PlainGraph) (offers : List (Option Offer)) (routes next : List (Option Settled)) (wanted left : List (Option ℕ)) (front : List ℕ) : Type 0 where
  pub held : (l : ℕ) → entry_at next l ≡ after_offer g routes l (entry_at offers l)
  pub waits : (l : ℕ) → entry_at left l ≡ (if is_some (entry_at offers l) then None else entry_at wanted l)
  pub later : (n : ℕ) → IsTrue (is_among front n) ↔ ((l : ℕ) × (o : Offer) × (entry_at offers l ≡ Some o) × (o.to ≡ n))
  pub fewer : count_by is_some left + length front ≡ count_by is_some wanted
