-- The places of a pair of cases.
use Rattle.std.specs.Prelude.{◌↔◌, ℕ, Bool, ◌&&◌, IsTrue, List, [], ◌++◌, filter, length, map, Some, None, if◌then◌else◌}
use Rattle.list_law.specs.Members.{IsIn}
use Rattle.net_base.specs.Locations.{numbers_below}
use Rattle.net_base.specs.Network.{PlainNet, is_peer, is_router}
use Rattle.compare_base.specs.declared.cases.CasePair.{CasePair}
use Rattle.compare_base.specs.declared.rows.Place.{Place}
use Rattle.compare_base.specs.Cases.{is_originated, is_place}
use Rattle.pair_changes.specs.Changes.{AreInOrder}

abbrev pub router_place : ℕ → Place
router_place r = record { router = r; peer = None }

abbrev pub session_place : ℕ × ℕ → Place
session_place session = record { router = session.0; peer = Some session.1 }

-- the routers, of so many, that are origins in neither
abbrev pub router_places : PlainNet → CasePair → ℕ → List Place
router_places net cases count = map router_place (filter (λ r. is_place net cases r None) (numbers_below count))

abbrev pub is_session : PlainNet → ℕ × ℕ → Bool
is_session net link = is_router net link.0 && is_peer net link.1

-- the sessions among links, each of a router to a peer
abbrev pub session_places : PlainNet → List (ℕ × ℕ) → List Place
session_places net links = map session_place (filter (is_session net) links)

-- routers by location, then sessions as the links stand
abbrev pub places_in : PlainNet → CasePair → List Place
places_in net cases = router_places net cases (length net.routers) ++ (if is_originated cases then session_places net net.links else [])

-- All places of the pair, in order.
pub record ArePlaces (net : PlainNet) (cases : CasePair) (places : List Place) : Type 0 where
  pub those : (place : Place) → IsIn places place ↔ IsTrue (is_place net cases place.router place.peer)
  pub order : AreInOrder places
