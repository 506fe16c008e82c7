use Rattle.std.proofs.Common.{◌≤◌, ◌<◌, ℕ, length}
use Rattle.scenarios.specs.Situations.{IsSettledIn}
use Rattle.scenarios.proofs.situation.Situation.are_settled.Given as goal

abbrev pub invariant-loop-at : goal.invariant-loop-at
invariant-loop-at l = record {
  few : length l.self.net.now.routers ≤ 512;
  before : (r : ℕ) → r < l.at → IsSettledIn l.self r;
}
