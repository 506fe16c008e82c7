use Rattle.std.proofs.Common.{◌≡◌, ◌<◌, map, ap, ◌∙◌, arith}
use Rattle.graph_base.specs.declared.graph.Node.{Node}
use Rattle.graph_base.specs.Runs.{place_of}
use Rattle.node_quotient.proofs.Firsts.{located_nodes, place_below}
use Rattle.node_quotient.proofs.first.located.Goals as goal

pub returns : goal.returns
returns c =
    let g = c.args.graph.now in
    let places = c.in_ok-places.places.items in
    let is : places ≡ map (λ (node : Node). node.loc) g.nodes = c.in_ok-places.ensures ∙ ap (map (λ (node : Node). node.loc)) c.nodes.ensures.nodes in
    record {
      bound = λ n lt.
          let below : place_of g n < c.bound-bound.result = place_below g places c.deref.result.now c.bound-bound.result is c.deref.ensures.value c.bound-bound.ensures n lt in
          let size = c.in_ok-lists.ensures.size in
          omega (arith, below, size);
      nodes = located_nodes g places c.deref-2.result.now c.in_ok-lists.lists.items is c.deref-2.ensures.value c.in_ok-lists.ensures.groups;
    }
