use Rattle.std.proofs.Common.{◌≡◌, ℕ, ◌≤◌, true, ltb, length, take}
use Rattle.bit_rows.specs.Tables.{has_at}
use Rattle.reach_prune.specs.Searches.{is_among}
use Rattle.reach_prune.specs.Sweeps.{work_of}
use Rattle.reach_prune.specs.Ways.{nth}
use Rattle.reach_prune.proofs.Sweeping.{Stage}
use Rattle.reach_prune.proofs.sweep.Sweep.search.Given as goal

abbrev pub invariant-search : goal.invariant-search
invariant-search l = Stage l.lists (λ a. ltb (nth l.way (length l.lists) a) l.place) l.node (λ a. ⊥) l.self

abbrev pub decreases-search : goal.decreases-search
decreases-search l = work_of l.node l.self

abbrev pub invariant-loop-next : goal.invariant-loop-next
invariant-loop-next l = record {
  stage : Stage l.lists (λ a. ltb (nth l.way (length l.lists) a) l.place) l.node (λ a. a ≡ l.at) l.self;
  found : has_at l.self.rows l.node l.at ≡ true;
  passed : (b : ℕ) → is_among (take l.next-index l.next-items) b ≡ true → has_at l.self.rows l.node b ≡ true;
  left : work_of l.node l.self ≤ work_of l.node l.initial.self;
}
