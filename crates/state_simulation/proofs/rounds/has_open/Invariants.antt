use Rattle.std.proofs.Common.{◌≡◌, ℕ, false, IsTrue, take}
use Rattle.reach_prune.specs.Searches.{is_among}
use Rattle.state_simulation.specs.Stages.{asks_later, has_either}
use Rattle.state_simulation.proofs.rounds.has_open.Given as goal

abbrev pub invariant-loop-m : goal.invariant-loop-m
invariant-loop-m l = (m : ℕ) → IsTrue (is_among (take l.m-index l.m-items) m) → asks_later l.touched m l.n ≡ false → IsTrue (has_either l.left m l.n)
