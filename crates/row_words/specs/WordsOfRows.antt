-- In what a place differs by its rows, and which of them show it.
use Rattle.std.specs.Prelude.{ℕ, Bool, true, false, not, ◌||◌, nat_lt, List, filter, Option, Some, None, if◌then◌else◌}
use Rattle.std.specs.List.{list_any}
use Rattle.compare_base.specs.declared.rows.Row.{Row}
use Rattle.compare_base.specs.declared.rows.Words.{Words}
use Rattle.compare_base.specs.declared.rows.Words.TheVariants.{Partly, Unclaimed, Claimed, Replaced}
use Rattle.row_words.specs.Clashes.{clashes, is_common, is_gained, is_lost}

-- some two rows clash
abbrev pub clash_somewhere : List Row → Bool
clash_somewhere rows = list_any (λ row. list_any (clashes row) rows) rows

abbrev pub partly : Bool → Bool → Bool → Option Words
partly lost gained reordered = if lost || (gained || reordered) then Some (Partly lost gained reordered) else None

abbrev pub one_sided : Bool → Bool → Option Words
one_sided true true = Some Replaced
one_sided true false = Some Unclaimed
one_sided false true = Some Claimed
one_sided false false = None

-- In what a place with these rows differs, if it does: where some row has two ranks, and where none has.
abbrev pub words_of : List Row → Option Words
words_of rows =
    if list_any is_common rows then partly (list_any is_lost rows) (list_any is_gained rows) (clash_somewhere rows)
    else one_sided (list_any is_lost rows) (list_any is_gained rows)

abbrev pub is_lesser_rank : Option ℕ → Option ℕ → Bool
is_lesser_rank (Some i) (Some k) = nat_lt i k
is_lesser_rank (Some i) None = false
is_lesser_rank None than = false

-- the other row has a better rank in a policy that permits both walks
abbrev pub is_better : Row → Row → Bool
is_better row other = is_lesser_rank other.old row.old || is_lesser_rank other.new row.new

-- A row shows it that has one rank or clashes; where none has two ranks, one than which none is better.
abbrev pub is_shown : List Row → Row → Bool
is_shown rows row = if list_any is_common rows then not (is_common row) || list_any (clashes row) rows else not (list_any (is_better row) rows)

abbrev pub shown_rows : List Row → List Row
shown_rows rows = filter (is_shown rows) rows
