use Rattle.std.proofs.Common.{◌≡◌, ◌<◌, Bool, false, [], length, vec_len, ap, arith, ◌∙◌, refl}
use Rattle.std.proofs.lemmas.List.{get_or_read, length-replicate, nil_from_length}
use Rattle.impact_law.specs.Cuts.{with_cut}
use Rattle.outcome_base.specs.Outcomes.{no_failures}
use Rattle.reach_prune.proofs.Visiting.{listed_below}
use Rattle.cut_ranks.proofs.Visiting.{none_marked, stage_begun, stage_end, stage_next, stage_node}
use Rattle.cut_ranks.proofs.search.nodes_left.Goals as goal

pub search-init : goal.search-init
search-init c =
    let g = c.args.graph.now in
    let size : vec_len c.in_ok-search.search.marks ≡ length g.nodes = c.in_ok-search.search.marks.ok.0 ∙ ap length c.in_ok-search.ensures.marks
    ∙ length-replicate {A = Bool} _ false ∙ ap length c.nodes.ensures.nodes in
    stage_begun g (with_cut c.args.cut.now no_failures) c.in_ok-search.search c.begin.new.self size
    (λ n. none_marked _ _ n c.in_ok-search.ensures.marks) c.in_ok-search.ensures.waiting c.in_ok-begin.ensures

pub location-from-requires : goal.location-from-requires
location-from-requires c = stage_node c.args.graph.now (with_cut c.args.cut.now no_failures) c.in-Some.node c.search.search _ c.search.invariant c.in-Some.ensures.items

pub bounds-lists-node : goal.bounds-lists-node
bounds-lists-node c =
    let node = stage_node c.args.graph.now (with_cut c.args.cut.now no_failures) c.in-Some.node c.search.search _ c.search.invariant c.in-Some.ensures.items in
    omega (arith, node, c.requires.size)

pub follow-requires-clause-nodes : goal.follow-requires-clause-nodes
follow-requires-clause-nodes c = λ k d lt.
    let lists = c.args.lists.now in
    let low = stage_node c.args.graph.now (with_cut c.args.cut.now no_failures) c.in-Some.node c.search.search _ c.search.invariant c.in-Some.ensures.items in
    let node : c.in-Some.node < length lists = omega (arith, low, c.requires.size) in
    let read = get_or_read lists _ _ node c.index-lists-node.is [] in
    let below = listed_below lists c.in-Some.node c.as_slice.result.now k d c.requires.lists (c.as_slice.ensures ∙ read) lt in
    omega (arith, below, c.requires.size)

pub search-preserved : goal.search-preserved
search-preserved c =
    let g = c.args.graph.now in
    let f = with_cut c.args.cut.now no_failures in
    let lists = c.args.lists.now in
    let low = stage_node g f c.in-Some.node c.search.search _ c.search.invariant c.in-Some.ensures.items in
    let node : c.in-Some.node < length lists = omega (arith, low, c.requires.size) in
    let read = get_or_read lists _ _ node c.index-lists-node.is [] in
    stage_next g f lists c.requires.steps c.in-Some.node c.location-from.result _ _ _ _ c.search.invariant refl refl c.in-Some.ensures.items
    (c.as_slice.ensures ∙ read) c.location-from.ensures c.in_ok-follow.ensures

pub returns-clause-marks : goal.returns-clause-marks
returns-clause-marks c = λ n lt.
    let idle : length c.search.search.waiting.items ≡ 0 = omega (arith, c.in_default.ensures.cases.0, c.search.search.waiting.ok.0) in
    stage_end c.args.graph.now (with_cut c.args.cut.now no_failures) c.search.search c.search.invariant (nil_from_length _ idle) n
