-- Which walks a kind shows.
use Rattle.std.specs.Prelude.{◌≡◌, ℕ, List, length, slice_get, Option, Some}
use Rattle.list_law.specs.Members.{IsIn}
use Rattle.graph_base.specs.Graphs.{PlainGraph}
use Rattle.graph_base.specs.Walks.{IsShownWalk}
use Rattle.compare_base.specs.declared.rows.Kind.{Kind}
use Rattle.compare_base.specs.declared.rows.Place.{Place}
use Rattle.compare_base.specs.declared.rows.Row.{Row}
use Rattle.pair_rows.specs.declared.values.FirstRow.{FirstRow}
use Rattle.pair_rows.specs.Rows.{from_peer}
use Rattle.pair_changes.specs.Changes.{IsExample}

-- the walk by which the node of a row is shown, from the peer where the place is a session
abbrev pub IsWalkFrom : PlainGraph → Option ℕ → ℕ → List ℕ → Type 0
IsWalkFrom g peer node walk = (shown : List ℕ) × IsShownWalk g node shown × (walk ≡ from_peer peer shown)

-- a row of a place, and the walk of its least node
abbrev pub IsWalkOf : PlainGraph → List FirstRow → Option ℕ → Row → List ℕ → Type 0
IsWalkOf g firsts peer row walk = (x : FirstRow) × IsIn firsts x × (x.row ≡ row) × IsWalkFrom g peer x.node walk

-- for each row such a walk
pub record AreWalks (g : PlainGraph) (firsts : List FirstRow) (peer : Option ℕ) (rows : List Row) (walks : List (List ℕ)) : Type 0 where
  pub count : length walks ≡ length rows
  pub each : (i : ℕ) (row : Row) (walk : List ℕ) → slice_get rows i ≡ Some row → slice_get walks i ≡ Some walk → IsWalkOf g firsts peer row walk

-- the kind with the walks of one of its places
pub record IsShown (g : PlainGraph) (firsts : Place → List FirstRow) (bare kind : Kind) : Type 0 where
  pub words : kind.words ≡ bare.words
  pub rows : kind.rows ≡ bare.rows
  pub places : kind.places ≡ bare.places
  pub example : IsExample (λ place. AreWalks g (firsts place) place.peer bare.rows) bare.places kind.walks

pub record AreAllShown (g : PlainGraph) (firsts : Place → List FirstRow) (bare kinds : List Kind) : Type 0 where
  pub count : length kinds ≡ length bare
  pub each : (i : ℕ) (a b : Kind) → slice_get bare i ≡ Some a → slice_get kinds i ≡ Some b → IsShown g firsts a b
