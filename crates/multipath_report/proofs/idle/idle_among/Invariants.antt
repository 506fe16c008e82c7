use Rattle.std.proofs.Common.{◌≡◌, ℕ, filter, not, take}
use Rattle.multipath_report.specs.Idle.{is_used_in}
use Rattle.multipath_report.proofs.idle.idle_among.Given as goal

abbrev pub invariant-loop-link : goal.invariant-loop-link
invariant-loop-link l = l.idle ≡ filter (λ (link : ℕ × ℕ). not (is_used_in l.situation l.sets link)) (take l.link-index l.links)
