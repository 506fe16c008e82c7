use Rattle.std.proofs.Common.{length, ap, arith, ◌∙◌}
use Rattle.graph_base.specs.Runs.{place_of}
use Rattle.relation_law.specs.Rounds.{is_in}
use Rattle.state_simulation.proofs.Locating.{located_groups}
use Rattle.state_simulation.proofs.maps.nodes_by_place.Goals as goal

pub grouped-requires : goal.grouped-requires
grouped-requires c =
    let g = c.args.graph.now in
    located_groups (place_of g) (length g.nodes) c.location_count.result c.in_ok-placed.placed.items c.deref.result.now c.deref.ensures.value c.in_ok-placed.ensures c.location_count.ensures

pub returns-clause-located : goal.returns-clause-located
returns-clause-located c = λ n lt. (let below = c.location_count.ensures n lt in omega (arith, c.in_ok-peers.ensures.groups, below))

pub returns-clause-placed : goal.returns-clause-placed
returns-clause-placed c = λ p n. c.in_ok-peers.ensures.members p n ∙ ap (λ l. is_in l p n) c.deref.ensures.value ∙ c.in_ok-placed.ensures p n
