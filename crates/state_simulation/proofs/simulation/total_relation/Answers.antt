use Rattle.std.proofs.Common.{List, length, refl, ap, subst}
use Rattle.graph_base.specs.declared.graph.Node.{Node}
use Rattle.state_simulation.specs.Held.{PlainRelation}
use Rattle.state_simulation.proofs.Aparting.{AreOwn, own_bound, own_greatest}
use Rattle.state_simulation.proofs.Holding.{made_relation, made_total}
use Rattle.state_simulation.proofs.simulation.total_relation.Goals as goal

pub returns-then-branch-clause-relation : goal.returns-then-branch-clause-relation
returns-then-branch-clause-relation c =
    let g = c.args.graph.now in
    let rows = c.in_ok-rows.rows in
    made_relation g g c.args.claimed.now c.in_ok-relation.relation rows refl c.in_ok-relation.ensures
    (own_greatest g c.args.claimed.now rows (c.in_ok-stand_apart.ensures.apart c.if-branch.true)
    (subst (λ (nodes : List Node). AreOwn (length nodes) rows) c.nodes.ensures.nodes c.in_ok-rows.ensures.own))

pub returns-then-branch-clause-claimed : goal.returns-then-branch-clause-claimed
returns-then-branch-clause-claimed c = ap (λ (r : PlainRelation). r.claimed) c.in_ok-relation.ensures

pub returns-then-branch-clause-total : goal.returns-then-branch-clause-total
returns-then-branch-clause-total c =
    let g = c.args.graph.now in
    let rows = c.in_ok-rows.rows in
    made_total g g c.args.claimed.now c.in_ok-relation.relation rows refl c.in_ok-relation.ensures
    (own_bound g rows (c.in_ok-stand_apart.ensures.apart c.if-branch.true)
    (subst (λ (nodes : List Node). AreOwn (length nodes) rows) c.nodes.ensures.nodes c.in_ok-rows.ensures.own))
