-- What the table of first nodes shows of a router at which a node has a rank and another one has none.
use Rattle.std.specs.Prelude.{◌≡◌, ℕ, ◌&&◌, false, List, length, Some, is_some}
use Rattle.case_core.specs.declared.firsts.Firsts.{Firsts}
use Rattle.case_core.specs.declared.sources.Mixed.{Mixed}
use Rattle.graph_base.specs.Least.{least_below}
use Rattle.case_core.specs.Firsts.{has_both, row}

abbrev pub IsNotMixed : Firsts → Type 0
IsNotMixed firsts = (is_some firsts.ranked && is_some firsts.unranked) ≡ false

-- the row of a router with one node of each kind
abbrev pub IsMixedRow : ℕ → Firsts → Mixed → Type 0
IsMixedRow r firsts mixed = (mixed.router ≡ r) × (firsts.ranked ≡ Some mixed.ranked) × (firsts.unranked ≡ Some mixed.unranked)

-- and the first such router of a table
abbrev pub IsFirstMixed : List Firsts → Mixed → Type 0
IsFirstMixed table mixed =
    (least_below (length table) (has_both table) ≡ Some mixed.router) × IsMixedRow mixed.router (row table mixed.router) mixed
