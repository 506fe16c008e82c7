use Rattle.std.proofs.Common.{◌≡◌, ◌<◌, length, sym, ◌∙◌, ltb, eqb}
use Rattle.std.proofs.lemmas.Bool.{and_parts, ltb-true}
use Rattle.graph_base.specs.Runs.{place_of}
use Rattle.state_simulation.proofs.Locating.{member_below}
use Rattle.state_simulation.proofs.maps.Maps.peers.Goals as goal

pub returns-clause-within : goal.returns-clause-within
returns-clause-within c = λ k d lt.
    let are = c.args.self.now.are in
    let g = c.args.self.now.graph.now in
    let lists = c.args.self.now.peers.items in
    let at = c.number-at.result in
    let is : at ≡ place_of g c.args.node = c.number-at.ensures ∙ c.location.ensures in
    let node : at < length lists = rw is (are.located c.args.node c.requires) in
    member_below lists at (length g.nodes) c.as_slice.result.now c.index.result.now k d node c.as_slice.ensures c.index.ensures
    (λ n h. ltb-true _ _ (and_parts (ltb n (length g.nodes)) (eqb (place_of g n) at) (sym (are.placed at n) ∙ h)).0) lt
