use Rattle.std.proofs.Common.{◌≤◌, ◌<◌, ℕ, length}
use Rattle.scenarios.specs.Situations.{IsSettledIn}
use Rattle.table_audit.proofs.judge.first_fault.Given as goal

abbrev pub invariant-loop-at : goal.invariant-loop-at
invariant-loop-at l = record {
  few : length l.situation.net.now.routers ≤ 512;
  before : (r : ℕ) → r < l.at → IsSettledIn l.situation r;
}
