use Rattle.std.proofs.Common.{◌≡◌, ◌++◌, filter, map, take}
use Rattle.drain_report.specs.Steps.{is_offer, offer_step}
use Rattle.drain_report.proofs.steps.push_offers.Given as goal

abbrev pub invariant-loop-link : goal.invariant-loop-link
invariant-loop-link l = l.steps ≡ l.initial.steps ++ map offer_step (filter (is_offer l.situation) (take l.link-index l.link-items))
