use Rattle.std.proofs.Common.{◌<◌, [], length, arith, ap, sym, ◌∙◌, refl, eqb, get_or}
use Rattle.std.proofs.lemmas.Bool.{eq-eqb}
use Rattle.std.proofs.lemmas.List.{get_or_read}
use Rattle.std.proofs.lemmas.List.Folds.{list_any_at}
use Rattle.reach_prune.specs.Searches.{is_among}
use Rattle.preference_check.proofs.Spreading.{spread_next, spread_node}
use Rattle.preference_check.proofs.flood.Flood.spread.Goals as goal

pub bounds-lists-node : goal.bounds-lists-node
bounds-lists-node c = spread_node _ _ _ _ _ _ _ c.spread.invariant c.in-Some.ensures.items

pub visit_each-requires : goal.visit_each-requires
visit_each-requires c = λ k d lt.
    let lists = c.args.lists.now in
    let nodes = c.as_slice.result.now in
    let node : c.in-Some.node < length lists = spread_node _ _ _ _ _ _ _ c.spread.invariant c.in-Some.ensures.items in
    let read = c.as_slice.ensures ∙ get_or_read lists _ _ node c.index-lists-node.is [] in
    let next = get_or nodes k d in
    let below = c.requires.lists c.in-Some.node next (ap (λ x. is_among x next) (sym read) ∙ list_any_at (λ x. eqb x next) nodes k d lt (eq-eqb next next refl)) in
    omega (arith, below, c.spread.invariant.size)

pub spread-preserved : goal.spread-preserved
spread-preserved c =
    let lists = c.args.lists.now in
    let node : c.in-Some.node < length lists = spread_node _ _ _ _ _ _ _ c.spread.invariant c.in-Some.ensures.items in
    let read = c.as_slice.ensures ∙ get_or_read lists _ _ node c.index-lists-node.is [] in
    spread_next lists c.args.number c.args.from c.in-Some.node c.as_slice.result.now c.args.self.now c.spread.self
    (record c.spread.self { waiting = c.pop.new.self }) c.visit_each.new.self c.spread.invariant refl refl c.in-Some.ensures.items read
    c.in_ok-visit_each.ensures
