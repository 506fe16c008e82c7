-- Places that are grouped by how they differ.
use Rattle.std.specs.Prelude.{◌≡◌, ℕ, ◌<◌, Bool, true, false, ◌&&◌, List, filter, option_map, slice_get, Option, Some, None}
use Rattle.std.specs.Option.{option_map_or}
use lib.Pointwise.{pointwise}
use Rattle.list_law.specs.Members.{IsIn}
use Rattle.compare_base.specs.declared.rows.Kind.{Kind}
use Rattle.compare_base.specs.declared.rows.Place.{Place}
use Rattle.compare_base.specs.declared.rows.Row.{Row}
use Rattle.compare_base.specs.Same.{same_row, same_words}
use Rattle.row_words.specs.WordsOfRows.{shown_rows, words_of}
use Rattle.pair_changes.specs.declared.ways.Way.{Way}
use Rattle.pair_changes.specs.Changes.{ComesBefore}

-- how a place with these rows differs, if it does
abbrev pub way_by : List Row → Option Way
way_by rows = option_map (λ words. record { words = words; rows = shown_rows rows }) (words_of rows)

-- the kind is of places that differ so
abbrev pub is_of : Way → Kind → Bool
is_of way kind = same_words kind.words way.words && pointwise same_row kind.rows way.rows

-- the kind with this number is of places that differ so; none is where places don't differ
abbrev pub IsNumberOf : List Kind → Option Way → Option ℕ → Type 0
IsNumberOf kinds (Some way) (Some n) = (kind : Kind) × (slice_get kinds n ≡ Some kind) × (is_of way kind ≡ true)
IsNumberOf kinds (Some way) None = ⊥
IsNumberOf kinds None (Some n) = ⊥
IsNumberOf kinds None None = Unit {0}

abbrev pub differs_so : Kind → Option Way → Bool
differs_so kind way = option_map_or (λ w. is_of w kind) way false

-- All of some places that differ are in kinds, which come in order of their first places.
pub record AreKinds (way : Place → Option Way) (places : List Place) (kinds : List Kind) : Type 0 where
  pub each : (kind : Kind) → IsIn kinds kind → kind.places ≡ filter (λ q. differs_so kind (way q)) places
  pub some : (kind : Kind) → IsIn kinds kind → (place : Place) × (slice_get kind.places 0 ≡ Some place)
  pub all : (place : Place) (w : Way) → IsIn places place → way place ≡ Some w → (kind : Kind) × IsIn kinds kind × (is_of w kind ≡ true)
  pub order : (i j : ℕ) (a b : Kind) → i < j → slice_get kinds i ≡ Some a → slice_get kinds j ≡ Some b → ComesBefore a b
