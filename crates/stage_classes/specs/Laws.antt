-- The cell of a prefix.
use Rattle.std.specs.Prelude.{◌≡◌, ◌≢◌, ℕ, ◌+◌, List, [], length, Option, Some, None}
use Rattle.std.specs.List.{AllByRecursion, find}
use Rattle.std.specs.Option.{option_map}
use Rattle.net_base.specs.Prefixes.{PlainPattern, PlainPrefix, IsPrefix}
use Rattle.policy_base.specs.Governing.{some_contains}
use Rattle.config_base.specs.Lines.{class_from}
use Rattle.stage_classes.specs.declared.cell.Cell.{Cell}
use Rattle.stage_classes.specs.Cells.{cells}

-- the first cell with the prefix
abbrev pub cell_of : List Cell → PlainPrefix → Option Cell
cell_of cs p = find (λ (c : Cell). some_contains c.patterns p) cs

-- the numbers of a prefix's classes, where the number after the last class stands for none; and nothing, where it has none in either
abbrev pub paired : Option ℕ → Option ℕ → ℕ → ℕ → Option (ℕ × ℕ)
paired None None after_old after_new = None
paired None (Some n) after_old after_new = Some (after_old, n)
paired (Some m) None after_old after_new = Some (m, after_new)
paired (Some m) (Some n) after_old after_new = Some (m, n)

-- those of its class in the old configuration and in the new one
abbrev pub pair_of : List (List PlainPattern) → List (List PlainPattern) → PlainPrefix → Option (ℕ × ℕ)
pair_of old new p = paired (class_from old p 1) (class_from new p 1) (length old + 1) (length new + 1)

-- The first cell with a prefix is that of its two classes.
abbrev pub CellsArePairs : Type 0
CellsArePairs = (old new : List (List PlainPattern)) (p : PlainPrefix) → IsPrefix p
    → option_map (λ (c : Cell). (c.first, c.second)) (cell_of (cells old new) p) ≡ pair_of old new p

abbrev pub CellsHavePatterns : Type 0
CellsHavePatterns = (old new : List (List PlainPattern)) → AllByRecursion (λ (c : Cell). c.patterns ≢ []) (cells old new)
