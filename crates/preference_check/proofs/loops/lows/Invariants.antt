use Rattle.std.proofs.Common.{◌≡◌, ◌<◌, ◌≤◌, ℕ, [], IsTrue, length, get_or, vec_len}
use Rattle.reach_prune.specs.Searches.{is_listed}
use Rattle.preference_check.specs.Floods.{has_mark}
use Rattle.preference_check.specs.Rows.{has_upto}
use Rattle.preference_check.specs.declared.runs.Numbered.{Numbered}
use Rattle.preference_check.proofs.loops.lows.Given as goal

abbrev pub invariant-loop-entry : goal.invariant-loop-entry
invariant-loop-entry l = record {
  size : vec_len l.flood.marks ≡ length l.lists;
  idle : l.flood.waiting.items ≡ [];
  closed : (a b v : ℕ) → IsTrue (has_upto l.flood.marks.items a v) → IsTrue (is_listed l.lists a b) → IsTrue (has_upto l.flood.marks.items b v);
  bounded : (n j : ℕ) (d : Numbered) → IsTrue (has_mark l.flood.marks.items n) → l.entry-index ≤ j → j < length l.run → IsTrue (has_upto l.flood.marks.items n (get_or l.run j d).number);
  here : (j : ℕ) (d : Numbered) → j < l.entry-index → IsTrue (has_upto l.flood.marks.items (get_or l.run j d).node (get_or l.run j d).number);
}
