-- A place has no words exactly where its rows agree.
use Rattle.std.proofs.Common.{◌≡◌, ℕ, cond, Bool, true, false, List, Option, Some, None, refl, sym, ◌∙◌, inl, inr}
use Rattle.std.specs.Prelude.{◌&&◌, ◌||◌, IsTrue, is_none, is_some}
use Rattle.std.specs.List.{list_any}
use Rattle.std.proofs.lemmas.Bool.{both_ways, cases_Bool, cond-false, cond-true}
use Rattle.list_law.specs.Members.{IsIn}
use Rattle.list_law.proofs.Members.{list_any-from_IsIn, list_any_member}
use Rattle.compare_base.specs.declared.rows.Row.{Row}
use Rattle.row_words.specs.Agreeing.{Agree, AreRows}
use Rattle.row_words.specs.Clashes.{clashes, is_common, is_gained, is_lost}
use Rattle.row_words.specs.WordsOfRows.{clash_somewhere, one_sided, partly, words_of}

-- what no row passes
never : (p : Row → Bool) (rows : List Row) (row : Row) → list_any p rows ≡ false → IsIn rows row → p row ≡ false
never p rows row none at = elim (cases_Bool (p row)) [
  | inl yes_there ↦ absurd (both_ways _ none (list_any-from_IsIn p rows row at yes_there))
  | inr not_there ↦ not_there
]

-- and what no row passes is passed by none
none_passes : (p : Row → Bool) (rows : List Row) → ((row : Row) → IsIn rows row → p row ≡ false) → list_any p rows ≡ false
none_passes p rows each = elim (cases_Bool (list_any p rows)) [
  | inl some ↦ absurd (let member = list_any_member p rows some in both_ways _ (each member.0 member.1) member.2)
  | inr none ↦ none
]

-- each row has two ranks, or the one or the other
kind_of : (old new : Option ℕ) → IsTrue (is_some old || is_some new) → (is_some old && is_none new) ≡ false → (is_none old && is_some new) ≡ false → IsTrue (is_some old && is_some new)
kind_of (Some i) (Some j) row lost gained = refl
kind_of (Some i) None row lost gained = absurd cc
kind_of None (Some j) row lost gained = absurd cc
kind_of None None row lost gained = absurd cc

common_only : (old new : Option ℕ) → IsTrue (is_some old && is_some new) → ((is_some old && is_none new) ≡ false) × ((is_none old && is_some new) ≡ false)
common_only (Some i) (Some j) common = (refl, refl)
common_only (Some i) None common = absurd cc
common_only None (Some j) common = absurd cc
common_only None None common = absurd cc

partly_none : (l g r : Bool) → partly l g r ≡ None → (l ≡ false) × (g ≡ false) × (r ≡ false)
partly_none true g r h = absurd cc
partly_none false true r h = absurd cc
partly_none false false true h = absurd cc
partly_none false false false h = (refl, refl, refl)

one_sided_none : (l g : Bool) → one_sided l g ≡ None → (l ≡ false) × (g ≡ false)
one_sided_none true true h = absurd cc
one_sided_none true false h = absurd cc
one_sided_none false true h = absurd cc
one_sided_none false false h = (refl, refl)

agreeing : (rows : List Row) → AreRows rows → list_any is_lost rows ≡ false → list_any is_gained rows ≡ false → clash_somewhere rows ≡ false → Agree rows
agreeing rows are lost gained clash = record {
  common = λ row at. kind_of row.old row.new (are row at) (never is_lost rows row lost at) (never is_gained rows row gained at);
  ordered = λ one other at_one at_other. never (clashes one) rows other (never (λ row. list_any (clashes row) rows) rows one clash at_one) at_other;
}

pub to_agree : (rows : List Row) → AreRows rows → words_of rows ≡ None → Agree rows
to_agree rows are h = elim (cases_Bool (list_any is_common rows)) [
  | inl some ↦ (
      let parts = partly_none (list_any is_lost rows) (list_any is_gained rows) (clash_somewhere rows) (sym (cond-true _ _ _ some) ∙ h) in
      agreeing rows are parts.0 parts.1 parts.2)
  | inr none ↦ (
      let parts = one_sided_none (list_any is_lost rows) (list_any is_gained rows) (sym (cond-false _ _ _ none) ∙ h) in
      let common : (row : Row) → IsIn rows row → IsTrue (is_common row) = λ row at. kind_of row.old row.new (are row at) (never is_lost rows row parts.0 at) (never is_gained rows row parts.1 at) in
      record {
        common = common;
        ordered = λ one other at_one at_other. absurd (both_ways _ (never is_common rows one none at_one) (common one at_one));
      })
]

pub from_agree : (rows : List Row) → Agree rows → words_of rows ≡ None
from_agree rows agree =
    let lost = none_passes is_lost rows (λ row at. (common_only row.old row.new (agree.common row at)).0) in
    let gained = none_passes is_gained rows (λ row at. (common_only row.old row.new (agree.common row at)).1) in
    let clash : clash_somewhere rows ≡ false = none_passes (λ row. list_any (clashes row) rows) rows (λ one at_one. none_passes (clashes one) rows (λ other at_other. agree.ordered one other at_one at_other)) in
    by (list_any is_common rows) (list_any is_lost rows) (list_any is_gained rows) (clash_somewhere rows) lost gained clash
  where
    by : (common l g r : Bool) → l ≡ false → g ≡ false → r ≡ false → cond common (partly l g r) (one_sided l g) ≡ None
    by true l g r hl hg hr = rw (hl, hg, hr) refl
    by false l g r hl hg hr = rw (hl, hg) refl
