use Rattle.std.proofs.Common.{◌≡◌, ℕ, filter, take}
use Rattle.outcome_base.specs.Outcomes.{is_live}
use Rattle.scenarios.specs.Scenarios.{failures_of}
use Rattle.multipath_report.proofs.idle.live_links.Given as goal

abbrev pub invariant-loop-link : goal.invariant-loop-link
invariant-loop-link l = l.links ≡ filter (λ (link : ℕ × ℕ). is_live l.situation.net.now (failures_of l.situation.scenario.now) link.0 link.1) (take l.link-index l.link-items)
