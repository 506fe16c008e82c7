-- The laws of partial settlements.
use Rattle.std.specs.Prelude.{ℕ, ◌≡◌, ◌⊎◌, true, false, List, ◌∷◌, ◌++◌, Some}
use Rattle.routing_law.specs.Graph.{MeetsRules, WellFormed, run}
use Rattle.routing_law.specs.Network.{NamesDiffer, stands_on, survives}
use Rattle.routing_law.specs.Outcome.{FullyStable, NoLater, Route, Routes, Setup, heard}
use Rattle.rest_law.specs.Partial.{AllOpen, CanHold, FirmlySettled, IsCandidate, IsFirm, IsOpen, IsSecure, PartlySettled, SettlingOrder, at_first, settled_with}

-- Where a settled neighbour gives an open router a route, some open router is secure.
abbrev pub SomeoneIsSecure : Type 0
SomeoneIsSecure =
    (w : Setup) (r : Routes) → WellFormed w.net w.graph → MeetsRules w.net w.graph → PartlySettled w r → (v u : ℕ) (x : Route) → IsOpen w r v
    → heard w r v u ≡ Some x → (z : ℕ) × (y : Route) × IsSecure w r z y

-- In the beginning the settlement is firm,
abbrev pub FirmAtFirst : Type 0
FirmAtFirst = (w : Setup) → FirmlySettled w (at_first w)

-- it stays so when a secure router settles,
abbrev pub FirmOn : Type 0
FirmOn = (w : Setup) (r : Routes) (v : ℕ) (x : Route) → FirmlySettled w r → IsSecure w r v x → FirmlySettled w (settled_with r v x)

-- after which open routers can come to hold no more than before,
abbrev pub CanHoldNoMore : Type 0
CanHoldNoMore = (w : Setup) (r : Routes) (v : ℕ) (x : Route) → PartlySettled w r → IsSecure w r v x → (p : List ℕ) (n : ℕ) → CanHold w (settled_with r v x) p n → CanHold w r p n

-- and where no open router is given a route by a settled neighbour, it is the outcome.
abbrev pub FirmAtLast : Type 0
FirmAtLast = (w : Setup) (r : Routes) → FirmlySettled w r → ((v u : ℕ) (x : Route) → IsOpen w r v → heard w r v u ≡ Some x → ⊥) → FullyStable w r

-- No candidate comes sooner than a firm route that a settled neighbour gives, and none but itself as soon.
abbrev pub FirmComesFirst : Type 0
FirmComesFirst =
    (w : Setup) (r : Routes) → NamesDiffer w.net → WellFormed w.net w.graph → PartlySettled w r → (v u : ℕ) (x y : Route) → IsFirm w r v x
    → heard w r v u ≡ Some x → IsCandidate w r v y → NoLater w x y × (NoLater w y x → y ≡ x)

-- What leads through open routers to a settled path, survives and has a run can be held.
abbrev pub OpenWaysAreHeld : Type 0
OpenWaysAreHeld =
    (w : Setup) (r : Routes) → PartlySettled w r → (v : ℕ) (vs : List ℕ) (u n : ℕ) (y : Route) → AllOpen w r (v ∷ vs) → r u ≡ Some y
    → survives w.alive (v ∷ vs ++ y.path) ≡ true → run w.graph (v ∷ vs ++ y.path) ≡ Some n → CanHold w r (v ∷ vs ++ y.path) n

-- What is given by a settled neighbour, or by an open one that can come to hold it, is a candidate.
abbrev pub GivenAreCandidates : Type 0
GivenAreCandidates =
    (w : Setup) (r : Routes) (v u m n : ℕ) (p : List ℕ) → w.alive.carries u v ≡ true → stands_on v (u ∷ p) ≡ false → w.graph.next m v ≡ Some n
    → (r u ≡ Some (record { path = u ∷ p; node = m })) ⊎ CanHold w r (u ∷ p) m → IsCandidate w r v (record { path = v ∷ u ∷ p; node = n })

-- Where no open router is given a route by a settled neighbour, none can come to hold one.
abbrev pub NothingIsLeft : Type 0
NothingIsLeft = (w : Setup) (r : Routes) → PartlySettled w r → ((v u : ℕ) (x : Route) → IsOpen w r v → heard w r v u ≡ Some x → ⊥) → (p : List ℕ) (n : ℕ) → CanHold w r p n → ⊥

-- So what is settled firmly is the outcome's,
abbrev pub FirmIsOutcome : Type 0
FirmIsOutcome =
    (w : Setup) (r s : Routes) → NamesDiffer w.net → WellFormed w.net w.graph → MeetsRules w.net w.graph → FirmlySettled w r → FullyStable w s
    → (v : ℕ) (x : Route) → r v ≡ Some x → s v ≡ Some x

-- and until all of the outcome is settled, some open router is secure, with its route of the outcome.
abbrev pub NextSettles : Type 0
NextSettles = (w : Setup) (r s : Routes) → NamesDiffer w.net → WellFormed w.net w.graph → MeetsRules w.net w.graph → FirmlySettled w r → FullyStable w s
    → ((v : ℕ) → r v ≡ s v) ⊎ ((v : ℕ) × (x : Route) × IsSecure w r v x × (s v ≡ Some x) × FirmlySettled w (settled_with r v x))

-- So all that have a route in the outcome settle in some order, one at a time.
abbrev pub RoutersSettleInOrder : Type 0
RoutersSettleInOrder = (w : Setup) (s : Routes) → NamesDiffer w.net → WellFormed w.net w.graph → MeetsRules w.net w.graph → FullyStable w s → SettlingOrder w s
