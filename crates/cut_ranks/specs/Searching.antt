-- A search over the steps of a graph.
use Rattle.std.specs.Prelude.{◌≡◌, ℕ, ◌+◌, Bool, not, ◌&&◌, ◌||◌, vec_len}
use Rattle.std.specs.List.{count_by}
use Rattle.reach_prune.specs.Searches.{is_among, is_marked}
use Rattle.cut_ranks.specs.declared.search.Search.{Search}

-- how much is left to do: nodes without a mark, and nodes that wait
abbrev pub work_left : Search → ℕ
work_left s = count_by not s.marks.items + vec_len s.waiting

-- what a search does as it comes to some nodes: those without a mark are marked and wait
pub record Visits (nodes : ℕ → Bool) (old new : Search) : Type 0 where
  pub size : vec_len new.marks ≡ vec_len old.marks
  pub marks : (n : ℕ) → is_marked new.marks.items n ≡ (is_marked old.marks.items n || nodes n)
  pub waiting : (n : ℕ) → is_among new.waiting.items n ≡ (is_among old.waiting.items n || (nodes n && not (is_marked old.marks.items n)))
  pub left : work_left new ≡ work_left old
