use Rattle.std.proofs.Common.{◌≡◌, ◌++◌}
use Rattle.std.specs.List.{flat_map}
use Rattle.net_base.specs.Locations.{numbers_below}
use Rattle.policy_base.specs.Policies.{policy_of}
use Rattle.outcome_claims.specs.Claims.{sources_of, statement_in}
use Rattle.outcome_report.specs.Lines.{router_line}
use Rattle.outcome_report.proofs.reporting.push_routers.Given as goal

abbrev pub invariant-loop-place : goal.invariant-loop-place
invariant-loop-place g l =
    l.text.items
    ≡ l.initial.text.items
    ++ flat_map (router_line l.subject.net.now (policy_of l.subject.policy.now) l.subject.prefix (statement_in l.subject.claims)
    (sources_of l.subject.claims) (g.S.Scene.shown l.scene)) (numbers_below l.place)
