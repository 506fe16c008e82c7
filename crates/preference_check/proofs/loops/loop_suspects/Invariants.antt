use Rattle.std.proofs.Common.{◌≡◌, ◌≤◌, ◌<◌, ℕ, false, length, vec_len}
use Rattle.reach_prune.specs.Searches.{is_marked}
use Rattle.graph_base.specs.Preferences.{number_in}
use Rattle.preference_check.specs.Floods.{KeepsLoopAt}
use Rattle.preference_check.proofs.Matching.{AreRuns}
use Rattle.preference_check.proofs.loops.loop_suspects.Given as goal

abbrev pub invariant-routers : goal.invariant-routers
invariant-routers l = record {
  size : length l.suspects.items ≡ length l.graph.nodes;
  nodes : AreRuns l.graph l.numbers l.routers.items;
  rule : (at m : ℕ) → length l.routers.items ≤ at → at < length l.net.routers → is_marked l.suspects.items m ≡ false → KeepsLoopAt l.graph (number_in l.numbers) at m;
}

abbrev pub decreases-routers : goal.decreases-routers
decreases-routers l = vec_len l.routers
