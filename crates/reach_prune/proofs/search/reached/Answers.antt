use Rattle.std.proofs.Common.{◌≡◌, ◌<◌, [], length, arith, ◌∙◌, refl}
use Rattle.std.proofs.lemmas.List.{get_or_read, nil_from_length}
use Rattle.reach_prune.proofs.Visiting.{listed_below, stage_end, stage_next, stage_node}
use Rattle.reach_prune.proofs.search.reached.Goals as goal

pub bounds-lists-node : goal.bounds-lists-node
bounds-lists-node c = stage_node _ _ _ _ _ c.search.invariant c.in-Some.ensures.items

pub visit_each-requires-in-Some : goal.visit_each-requires-in-Some
visit_each-requires-in-Some c = λ k d lt.
    let lists = c.args.lists.now in
    let node : c.in-Some.node < length lists = stage_node _ _ _ _ _ c.search.invariant c.in-Some.ensures.items in
    let read = get_or_read lists _ _ node c.index-lists-node.is [] in
    let below = listed_below lists c.in-Some.node c.as_slice.result.now k d c.requires.lists (c.as_slice.ensures ∙ read) lt in
    omega (arith, c.search.invariant.size)

pub search-preserved : goal.search-preserved
search-preserved c =
    let lists = c.args.lists.now in
    let node : c.in-Some.node < length lists = stage_node _ _ _ _ _ c.search.invariant c.in-Some.ensures.items in
    let read = get_or_read lists _ _ node c.index-lists-node.is [] in
    stage_next lists _ c.in-Some.node _ _ _ _ c.search.invariant refl refl c.in-Some.ensures.items (c.as_slice.ensures ∙ read) c.in_ok-visit_each-2.ensures

pub returns-clause-marks : goal.returns-clause-marks
returns-clause-marks c = λ n lt.
    let idle : length c.search.search.waiting.items ≡ 0 = omega (arith, c.in_default.ensures.cases.0, c.search.search.waiting.ok.0) in
    stage_end _ _ _ c.search.invariant (nil_from_length _ idle) n
