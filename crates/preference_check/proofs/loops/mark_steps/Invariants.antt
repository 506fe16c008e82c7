use Rattle.std.proofs.Common.{◌≡◌, ◌≤◌, ◌&&◌, ℕ, IsTrue, false, length, take, eqb}
use Rattle.std.specs.List.{list_any}
use Rattle.graph_base.specs.Runs.{is_listener, place_of}
use Rattle.reach_prune.specs.Searches.{is_marked}
use Rattle.graph_base.specs.Preferences.{number_in}
use Rattle.preference_check.specs.Rows.{has_upto}
use Rattle.preference_check.proofs.loops.mark_steps.Given as goal

abbrev pub invariant-loop-step : goal.invariant-loop-step
invariant-loop-step l = record {
  size : length l.suspects.items ≡ length l.initial.suspects.items;
  kept : (m : ℕ) → is_marked l.suspects.items m ≡ false → is_marked l.initial.suspects.items m ≡ false;
  steps : (m s v : ℕ) → is_marked l.suspects.items m ≡ false
      → IsTrue (list_any (λ (x : ℕ × ℕ). eqb x.0 m && eqb x.1 s) (take l.step-index l.step-items)) → is_listener l.graph s ≡ false
      → place_of l.graph s ≡ l.at
      → IsTrue (has_upto l.lows m v) → number_in l.numbers s ≤ v;
}
