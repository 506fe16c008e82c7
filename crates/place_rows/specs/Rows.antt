-- The rows of a place.
use Rattle.std.specs.Prelude.{ℕ, List, Option, Some, None}
use Rattle.compare_base.specs.declared.rows.Place.{Place}
use Rattle.pair_rows.specs.declared.values.FirstRow.{FirstRow}
use Rattle.place_rows.specs.declared.table.PlaceRows.{PlaceRows}
use Rattle.place_rows.specs.Noted.{rows_at, rows_for}

-- the rows of a router, or those of a session
abbrev pub rows_by : PlaceRows → Place → Option ℕ → List FirstRow
rows_by table place None = rows_at table.routers.items place.router
rows_by table place (Some peer) = rows_for table.places.keys table.sessions.items place

abbrev pub rows_of : PlaceRows → Place → List FirstRow
rows_of table place = rows_by table place place.peer
