use Rattle.std.proofs.Common.{refl, ap}
use Rattle.reach_prune.specs.Reachable.{can_reach}
use Rattle.state_simulation.specs.Held.{PlainRelation}
use Rattle.state_simulation.proofs.Holding.{made_relation, made_rounds}
use Rattle.state_simulation.proofs.Staging.{greatest_left}
use Rattle.state_simulation.proofs.simulation.relation.Goals as goal

pub returns-clause-relation : goal.returns-clause-relation
returns-clause-relation c =
    let g = c.args.graph.now in
    let claimed = c.args.claimed.now in
    let reach = can_reach c.args.reach.now in
    let rows = c.in_ok-rows.rows in
    let made = c.in_ok-rows.ensures.rounds reach c.requires.exact in
    made_relation g g claimed c.in_ok-relation.relation rows refl c.in_ok-relation.ensures (greatest_left g claimed reach made.0 rows c.requires.exact made.1 made.2)

pub returns-clause-claimed : goal.returns-clause-claimed
returns-clause-claimed c = ap (λ (r : PlainRelation). r.claimed) c.in_ok-relation.ensures

pub returns-clause-rounds : goal.returns-clause-rounds
returns-clause-rounds c =
    let g = c.args.graph.now in
    let reach = can_reach c.args.reach.now in
    made_rounds g g c.args.claimed.now c.in_ok-relation.relation reach c.in_ok-rows.rows refl c.in_ok-relation.ensures (c.in_ok-rows.ensures.rounds reach c.requires.exact)
