-- Rows that are noted at their places.
use Rattle.std.specs.Prelude.{◌≡◌, ℕ, ◌<◌, zero, suc, List, [], ◌∷◌, Vec, length, None, if◌then◌else◌}
use Rattle.std.specs.Global.{Global}
use Rattle.net_base.specs.Network.{PlainNet}
use Rattle.compare_base.specs.declared.rows.Place.{Place}
use Rattle.compare_base.specs.Same.{same_place}
use Rattle.pair_rows.specs.declared.values.FirstRow.{FirstRow}
use Rattle.pair_rows.specs.declared.values.Met.{Met}
use Rattle.pair_rows.specs.Meetings.{AreFirst, mets_at}

-- ---- routers

-- the rows of the router with this number; what is no router has none
abbrev pub rows_at : List (Vec FirstRow Global) → ℕ → List FirstRow
rows_at [] r = []
rows_at (first ∷ rows) zero = first.items
rows_at (first ∷ rows) (suc r) = rows_at rows r

-- Each router has the rows that are met there, with their least nodes.
abbrev pub AreNotedAt : List Met → List (Vec FirstRow Global) → Type 0
AreNotedAt mets rows = (r : ℕ) → r < length rows → AreFirst (mets_at mets (record { router = r; peer = None })) (rows_at rows r)

-- ---- sessions

-- the rows of a place, where each place has its own; a place that isn't there has none
abbrev pub rows_for : List Place → List (Vec FirstRow Global) → Place → List FirstRow
rows_for [] rows place = []
rows_for (k ∷ keys) [] place = []
rows_for (k ∷ keys) (r ∷ rows) place = if same_place place k then r.items else rows_for keys rows place

-- Each place has the rows that are met there, with their least nodes.
abbrev pub AreNoted : List Met → List Place → List (Vec FirstRow Global) → Type 0
AreNoted mets keys rows = (place : Place) → AreFirst (mets_at mets place) (rows_for keys rows place)
