-- When rows tell of no difference.
use Rattle.std.specs.Prelude.{◌≡◌, false, ◌||◌, IsTrue, is_some, List}
use Rattle.list_law.specs.Members.{IsIn}
use Rattle.compare_base.specs.declared.rows.Row.{Row}
use Rattle.row_words.specs.Clashes.{clashes, is_common}

-- in each of them some policy permits the walk
abbrev pub AreRows : List Row → Type 0
AreRows rows = (row : Row) → IsIn rows row → IsTrue (is_some row.old || is_some row.new)

-- both policies permit each walk, and they order no two otherwise
pub record Agree (rows : List Row) : Type 0 where
  pub common : (row : Row) → IsIn rows row → IsTrue (is_common row)
  pub ordered : (one other : Row) → IsIn rows one → IsIn rows other → clashes one other ≡ false
