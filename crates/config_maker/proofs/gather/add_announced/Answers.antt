use Rattle.std.proofs.Common.{◌++◌, List, ap, flat_map, get_or, length, sym, take, ◌∙◌}
use Rattle.std.proofs.lemmas.List.{flat_map_more, take_more}
use Rattle.graph_base.specs.Graphs.{PlainGraph}
use Rattle.config_maker.specs.declared.hop.Announced.{Announced}
use Rattle.config_maker.specs.Hops.{announced_at}
use Rattle.config_maker.proofs.Gathering.{start_node}
use Rattle.config_maker.proofs.gather.add_announced.Goals as goal

pub add_start-requires-clause-start : goal.add_start-requires-clause-start
add_start-requires-clause-start c =
    start_node c.graph-graph.result.now c.starts-start-items.result.now c.loop-start.start-index c.starts-start-items.ensures.rules c.starts-start-items.ensures.starts c.loop-start-test.true

pub add_start-requires-clause-tags : goal.add_start-requires-clause-tags
add_start-requires-clause-tags c = ap length c.tags.ensures ∙ c.graph-graph.ensures.rules.tagged ∙ sym (ap (λ (g : PlainGraph). length g.nodes) c.graph-graph.ensures.graph)

pub loop-start-preserved : goal.loop-start-preserved
loop-start-preserved c =
    let g = c.graph-graph.result.now in
    let prefixes = c.as_slice-prefixes.result.now in
    let starts = c.starts-start-items.result.now in
    let i = c.loop-start.start-index in
    let start = get_or starts i 0 in
    let first = c.args.all.now.items in
    let by = announced_at c.args.class prefixes g c.args.case.now.tags in
    c.in_ok-add_start.ensures
    ∙ ap (λ ts. c.loop-start.all.items ++ announced_at c.args.class prefixes g ts start) c.tags.ensures
    ∙ ap (λ (xs : List Announced). xs ++ by start) c.loop-start.invariant
    ∙ flat_map_more by first (take i starts) start
    ∙ ap (λ ss. first ++ flat_map by ss) (sym (take_more starts i 0 c.loop-start-test.true))
