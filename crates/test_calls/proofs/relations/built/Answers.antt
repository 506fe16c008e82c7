use Rattle.graph_base.proofs.WellFormed.{one_step}
use Rattle.test_calls.proofs.relations.built.Goals as goal

pub returns-in-Ok : goal.returns-in-Ok
returns-in-Ok c =
    let net = c.args.net.now in
    one_step net _ _ c.in-Ok.graph (c.built_graphs_are_well_formed.ensures.formed net _ c.in-Ok.graph c.in-Ok.ensures.built)
