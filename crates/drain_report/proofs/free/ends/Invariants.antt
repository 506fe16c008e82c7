use Rattle.std.proofs.Common.{◌≡◌, ℕ, take}
use Rattle.std.specs.Prelude.{◌&&◌}
use Rattle.std.specs.List.{list_any}
use Rattle.net_base.specs.Network.{is_router}
use Rattle.net_base.specs.Sets.{holds}
use Rattle.drain_report.specs.Free.{leads_to}
use Rattle.drain_report.proofs.free.ends.Given as goal

abbrev pub invariant-loop-step : goal.invariant-loop-step
invariant-loop-step l = (k : ℕ) → holds l.set k ≡ (is_router l.net k && list_any (leads_to k) (take l.step-index l.steps))
