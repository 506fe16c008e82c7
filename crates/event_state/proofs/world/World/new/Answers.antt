use Rattle.std.proofs.Common.{ℕ, ◌+◌, List, length, ap₂}
use Rattle.net_base.specs.declared.net.Site.{Site}
use Rattle.event_state.proofs.Blank.{blank_made, sized}
use Rattle.event_state.proofs.world.World.new.Goals as goal

pub invariant_of-result-clause-by_location : goal.invariant_of-result-clause-by_location
invariant_of-result-clause-by_location c =
    let same = ap₂ (λ (rs ps : List Site). length rs + length ps) c.routers.ensures.routers c.peers.ensures.peers in
    (sized _ _ _ c.in_ok-marks.ensures.down _ same, sized _ _ _ c.in_ok-routes.ensures _ same)

pub invariant_of-result-clause-by_direction : goal.invariant_of-result-clause-by_direction
invariant_of-result-clause-by_direction c =
    let same = ap₂ (λ (xs ys : List (ℕ × ℕ)). length xs + length ys) c.links.ensures.links c.links-2.ensures.links in (
      sized _ _ _ c.in_ok-marks.ensures.cut _ same,
      sized _ _ _ c.in_ok-marks.ensures.silent _ same,
      sized _ _ _ c.in_ok-passed.ensures.queues _ same,
      sized _ _ _ c.in_ok-passed.ensures.heard _ same,
      sized _ _ _ c.in_ok-passed.ensures.queued _ same,
    )

pub returns-clause-state : goal.returns-clause-state
returns-clause-state c =
    blank_made c.args.net.now _ _ _ _ _ _ _ _ _ c.in_ok-marks.ensures.down c.in_ok-routes.ensures c.in_ok-marks.ensures.cut c.in_ok-marks.ensures.silent
    c.in_ok-passed.ensures.queues c.in_ok-passed.ensures.heard c.in_ok-passed.ensures.queued
