-- Lines of rows of ranks with their walks.
use Rattle.std.specs.Prelude.{ℕ, List, [], ◌∷◌, ◌++◌, codes, Option, Some, None, if◌then◌else◌}
use Rattle.std.specs.Fmt.{decimal}
use Rattle.std.specs.List.{flat_map}
use Rattle.net_base.specs.Network.{PlainNet}
use Rattle.policy_base.specs.Walks.{is_loop_free}
use Rattle.outcome_report.specs.Lines.{next_name}
use Rattle.compare_base.specs.declared.rows.Row.{Row}

-- the number of a statement or a rank, where there is one
abbrev pub number_text : Option ℕ → List ℕ
number_text None = codes "none"
number_text (Some n) = decimal n

abbrev pub walk_word : List ℕ → List ℕ
walk_word walk = if is_loop_free walk then codes " path" else codes " walk"

-- a walk, and whether it is a path
unfoldable pub walk_text : PlainNet → List ℕ → List ℕ
walk_text net walk = walk_word walk ++ flat_map (next_name net) walk ++ codes "\n"

-- the ranks of a walk in the old policy and in the new one, and the walk
unfoldable pub row_line : PlainNet → Row → List ℕ → List ℕ
row_line net row walk =
    codes "rank " ++ number_text row.old ++ codes " now " ++ number_text row.new ++ walk_text net walk

abbrev pub row_lines : PlainNet → List Row → List (List ℕ) → List ℕ
row_lines net [] walks = []
row_lines net (row ∷ rows) [] = []
row_lines net (row ∷ rows) (walk ∷ walks) = row_line net row walk ++ row_lines net rows walks
