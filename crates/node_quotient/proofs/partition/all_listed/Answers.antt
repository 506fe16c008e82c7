use Rattle.std.proofs.Common.{[], get_or, sym, ap, ap₂, ◌∙◌}
use Rattle.std.specs.Prelude.{◌||◌, ◌==◌}
use Rattle.std.proofs.lemmas.List.{get_or_default}
use Rattle.std.proofs.lemmas.List.Folds.{list_any-append, list_any_more}
use Rattle.reach_prune.specs.Searches.{is_among, is_listed}
use Rattle.node_quotient.proofs.partition.all_listed.Goals as goal

pub loop-node-preserved : goal.loop-node-preserved
loop-node-preserved c = λ m.
    let lists = c.args.lists.now in
    let nodes = c.args.nodes.now in
    let i = c.loop-node.node-index in
    let node = get_or nodes i 0 in
    let lt = c.loop-node-test.true in
    let list = c.as_slice.ensures ∙ c.index-lists-node.is ∙ get_or_default lists node _ [] (c.requires i 0 lt) in
    ap (λ xs. is_among xs m) c.in_ok-extend_from_slice.ensures.items
    ∙ list_any-append (λ x. x == m) c.loop-node.all.items c.as_slice.result.now
    ∙ ap₂ (λ a b. a || b) (c.loop-node.invariant m) (ap (λ xs. is_among xs m) list)
    ∙ sym (list_any_more (λ n. is_listed lists n m) nodes i 0 lt)
