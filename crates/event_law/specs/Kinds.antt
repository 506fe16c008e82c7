-- What holds of every route that stands anywhere.
use Rattle.std.specs.Prelude.{◌≡◌, ℕ, true, false, List, [], ◌∷◌, Option, Some}
use Rattle.event_base.specs.World.{Speakers, World}

-- where there is a route, it's of this kind
abbrev pub Held : {R : Type 0} → (R → Type 0) → Option R → Type 0
Held {R} P m = (y : R) → m ≡ Some y → P y

abbrev pub Each : {R : Type 0} → (R → Type 0) → List (Option R) → Type 0
Each P [] = Unit {0}
Each P (m ∷ ms) = Held P m × Each P ms

-- a router's routes and the messages of a direction, each of its kind: exporting, announcing and choosing keep the kinds
pub record IsKind {R : Type 0} (net : Speakers R) (at : ℕ → R → Type 0) (on : ℕ → ℕ → R → Type 0) : Type 0 where
  pub exports : (a b : ℕ) (m : Option R) → net.is_router a ≡ true → Held (at a) m → Held (on a b) (net.export a b m)
  pub announces : (a b : ℕ) → net.is_router a ≡ false → Held (on a b) (net.announced a)
  pub chooses : (r : ℕ) (offer : ℕ → Option R) → net.is_router r ≡ true → ((u : ℕ) → Held (on u r) (offer u)) → Held (at r) (net.choose r offer)

pub record AreKinds {R : Type 0} (at : ℕ → R → Type 0) (on : ℕ → ℕ → R → Type 0) (w : World R) : Type 0 where
  pub queue : (a b : ℕ) → Each (on a b) (w.queue a b)
  pub heard : (a b : ℕ) → Held (on a b) (w.heard a b)
  pub queued : (a b : ℕ) → Held (on a b) (w.queued a b)
  pub route : (r : ℕ) → Held (at r) (w.route r)
