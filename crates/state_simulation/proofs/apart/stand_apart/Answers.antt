use Rattle.std.proofs.Common.{◌≡◌, ◌<◌, false, get_or, length, length-set, arith, sym, ap, ◌∙◌}
use Rattle.std.proofs.lemmas.List.{get_or_read}
use Rattle.graph_base.specs.Runs.{place_of}
use Rattle.state_simulation.proofs.Aparting.{apart_more, marked_more, only_more}
use Rattle.state_simulation.proofs.apart.stand_apart.Goals as goal

pub loop-node-preserved : goal.loop-node-preserved
loop-node-preserved c =
    let inv = c.loop-node.invariant in
    let place = place_of c.args.graph.now in
    let met = c.loop-node.met.items in
    let node = c.loop-node.node in
    let is : c.number-place.result ≡ place node = c.number-place.ensures ∙ c.location.ensures in
    let below : place node < c.location_count.result = c.location_count.ensures node (omega (arith, c.loop-node-test.true, ap length c.nodes.ensures.nodes)) in
    let inside : place node < length met = omega (arith, below, inv.count, c.in_ok-met.ensures.len, c.in_ok-met.met.ok.0) in
    let none : get_or met (place node) false ≡ false = sym (get_or_read met (place node) _ inside (rw is at c.index.ensures) false) ∙ c.if-index.false in
    rw is (record {
      count = length-set met (place node) _ ∙ inv.count;
      marked = marked_more place met node inside inv.marked;
      only = only_more place met node inside inv.only;
      apart = apart_more place met node inside none inv.marked inv.apart;
    })
