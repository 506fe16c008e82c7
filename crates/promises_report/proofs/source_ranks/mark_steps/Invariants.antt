use Rattle.std.proofs.Common.{◌≡◌, ◌<◌, ◌+◌, ◌||◌, ℕ, take}
use Rattle.std.specs.List.{list_any}
use Rattle.bit_rows.specs.Tables.{IsSameSize, has_at}
use Rattle.promises_report.specs.Tables.{step_sets}
use Rattle.promises_report.proofs.source_ranks.mark_steps.Given as goal

abbrev pub invariant-loop-step : goal.invariant-loop-step
invariant-loop-step l = record {
  size : IsSameSize l.rows l.initial.rows;
  bits : (n b : ℕ) → n < l.ranks + 1 → has_at l.rows n b ≡ (has_at l.initial.rows n b || list_any (step_sets l.net l.graph n b) (take l.step-index l.graph.steps));
}
