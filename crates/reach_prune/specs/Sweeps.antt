-- Searches from each node, of which each takes over what earlier ones found.
use Rattle.std.specs.Prelude.{◌≡◌, ◌≢◌, ◌↔◌, ℕ, ◌+◌, ◌<◌, ◌≤◌, Bool, false, not, ◌&&◌, ◌||◌, ◌==◌, IsTrue, List, [], length, vec_len, if◌then◌else◌}
use Rattle.std.specs.List.{count_by, range_with_len}
use Rattle.bit_rows.specs.Tables.{IsSameSize, has_at}
use Rattle.reach_prune.specs.declared.steps.Way.{Way}
use Rattle.reach_prune.specs.declared.sweep.Sweep.{Sweep}
use Rattle.reach_prune.specs.Searches.{Leads, is_among}
use Rattle.reach_prune.specs.Ways.{nth}

-- before the search at a place of the order: earlier rows have what the lists lead to, the others nothing
pub record Swept (way : Way) (lists : List (List ℕ)) (place : ℕ) (s : Sweep) : Type 0 where
  pub count : s.rows.count ≡ length lists
  pub bits : s.rows.bits ≡ length lists
  pub idle : s.waiting.items ≡ []
  pub finished : (a b : ℕ) → a < length lists → nth way (length lists) a < place → IsTrue (has_at s.rows a b) ↔ Leads lists a b
  pub clear : (a b : ℕ) → a < length lists → place ≤ nth way (length lists) a → has_at s.rows a b ≡ false

-- what is left to do in the search from a node
abbrev pub work_of : ℕ → Sweep → ℕ
work_of node s = count_by (λ b. not (has_at s.rows node b)) (range_with_len 0 s.rows.bits) + vec_len s.waiting

-- the search from a node comes to the next: if that wasn't found yet, its row is taken over where it is finished, and else it waits
pub record Comes (node next : ℕ) (finished : Bool) (old new : Sweep) : Type 0 where
  pub size : IsSameSize new.rows old.rows
  pub others : (a b : ℕ) → a < old.rows.count → a ≢ node → has_at new.rows a b ≡ has_at old.rows a b
  pub row : (b : ℕ) → has_at new.rows node b ≡ (has_at old.rows node b || (not (has_at old.rows node next) && (if finished then has_at old.rows next b else b == next)))
  pub waiting : (n : ℕ) → is_among new.waiting.items n ≡ (is_among old.waiting.items n || (not (has_at old.rows node next) && (not finished && n == next)))
  pub left : work_of node new ≤ work_of node old
