use Rattle.std.proofs.Common.{◌<◌, length, arith, sym, ◌∙◌}
use Rattle.state_simulation.proofs.Locating.{member_below}
use Rattle.state_simulation.proofs.maps.Maps.before.Goals as goal

pub returns-clause-within : goal.returns-clause-within
returns-clause-within c = λ k d lt.
    let are = c.args.self.now.are in
    let lists = c.args.self.now.before.items in
    let node : c.args.node < length lists = omega (arith, are.behind, c.requires) in
    member_below lists c.args.node (length c.args.self.now.graph.now.nodes) c.as_slice.result.now c.index.result.now k d node c.as_slice.ensures
    c.index.ensures (λ n h. (are.ends n c.args.node (sym (are.turned c.args.node n) ∙ h)).0) lt
