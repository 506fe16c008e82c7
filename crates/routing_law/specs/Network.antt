-- A network, what of it is alive, and paths through it.
use Rattle.std.specs.Prelude.{ℕ, ◌≡◌, ◌<◌, ◌==◌, Bool, true, false, not, ◌&&◌, List, [], ◌∷◌}
use Rattle.std.specs.List.{list_any}

-- locations are numbers; one that is no router is a peer
pub record Network : Type 0 where
  -- locations are below it
  pub size : ℕ
  pub router : ℕ → Bool
  -- who has a route of its own for the prefix
  pub origin : ℕ → Bool
  -- the identifier of a location, by which ties are broken
  pub name : ℕ → ℕ

-- identifiers differ
abbrev pub NamesDiffer : Network → Type 0
NamesDiffer net = (u v : ℕ) → u < net.size → v < net.size → net.name u ≡ net.name v → u ≡ v

-- what failures leave
pub record Alive : Type 0 where
  pub live : ℕ → Bool
  -- what the first announces comes to the second: they are linked, the link is alive, and a peer isn't silent
  pub carries : ℕ → ℕ → Bool

-- a live router that is no origin: it chooses among what it hears
abbrev pub chooses : Network → Alive → ℕ → Bool
chooses net alive v = net.router v && (alive.live v && not (net.origin v))

abbrev pub stands_on : ℕ → List ℕ → Bool
stands_on v p = list_any (λ u. u == v) p

abbrev pub loop_free : List ℕ → Bool
loop_free [] = true
loop_free (v ∷ p) = not (stands_on v p) && loop_free p

-- A path is read from its holder to its origin; what travels along it comes the other way.
abbrev pub survives : Alive → List ℕ → Bool
survives alive [] = false
survives alive (v ∷ []) = alive.live v
survives alive (v ∷ u ∷ p) = alive.live v && (alive.carries u v && survives alive (u ∷ p))

-- the neighbour by whom a path was given
abbrev pub giver : List ℕ → ℕ
giver [] = 0
giver (v ∷ []) = v
giver (v ∷ u ∷ p) = u
