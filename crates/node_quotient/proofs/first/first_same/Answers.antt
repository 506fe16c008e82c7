use Rattle.std.proofs.Common.{sym, ◌∙◌}
use Rattle.node_quotient.proofs.Firsts.{found_same, nodes_inside, none_same}
use Rattle.node_quotient.proofs.first.first_same.Goals as goal

pub first_ranked-requires : goal.first_ranked-requires
first_ranked-requires c = nodes_inside c.args.graph.now c.args.nodes.now c.args.node c.rank.result c.requires.node c.requires.nodes c.rank.ensures

pub returns-in-Some : goal.returns-in-Some
returns-in-Some c =
    let found = found_same c.args.graph.now c.args.nodes.now c.args.node c.rank.result c.requires.node c.requires.nodes c.rank.ensures c.in-Some.first
    (sym c.first_ranked.ensures ∙ c.in-Some.is) in
    record { le = found.0; same = found.1; first = found.2 }

pub returns-in-None-clause-first : goal.returns-in-None-clause-first
returns-in-None-clause-first c =
    λ m same. absurd (none_same c.args.graph.now c.args.nodes.now c.args.node c.rank.result c.requires.node c.requires.nodes c.rank.ensures
    (sym c.first_ranked.ensures ∙ c.in-None.is))
