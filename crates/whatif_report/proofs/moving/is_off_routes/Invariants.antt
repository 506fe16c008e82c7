use Rattle.std.proofs.Common.{◌≡◌, ℕ, ◌<◌, false}
use Rattle.whatif_report.specs.Cutting.{passes_over}
use Rattle.whatif_report.proofs.moving.is_off_routes.Given as goal

abbrev pub invariant-loop-place : goal.invariant-loop-place
invariant-loop-place l = (r : ℕ) → r < l.place → passes_over l.cut l.outcome.routes r ≡ false
