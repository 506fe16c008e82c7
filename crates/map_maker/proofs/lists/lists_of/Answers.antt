use Rattle.std.proofs.Common.{◌≡◌, ◌+◌, ◌∙◌, [], ◌++◌, List, ap, sym, subst, get_or, drop, min, arith}
use Rattle.std.specs.List.{AllByRecursion}
use Rattle.std.proofs.lemmas.List.{get_or_default}
use Rattle.net_base.specs.Prefixes.{PlainPattern}
use Rattle.route_maps.specs.OfConfig.{lists_from}
use Rattle.map_maker.specs.Earlier.{top}
use Rattle.map_maker.proofs.ListsLaws.{IsKnown, lines_in, class_total, class_lists, class_is_known}
use Rattle.map_maker.proofs.lists.lists_of.Goals as goal

pub loop-class-preserved : goal.loop-class-preserved
loop-class-preserved c =
    let i = c.loop-class.class-index in
    let classes = c.args.classes.now in
    let earlier = c.loop-class.earlier.patterns in
    let class = c.as_slice-class.result.now in
    let lengths = c.in_ok-lengths.lengths.items in
    let this : class ≡ get_or classes i [] = c.as_slice-class.ensures ∙ c.class-item.is ∙ get_or_default classes i c.class-item.result [] c.loop-class-test.true in
    let patterns : c.in_ok-earlier.earlier.patterns ≡ earlier ++ class = c.in_ok-earlier.ensures.patterns in
    record {
      few = omega (arith, c.saturating_add-total.ensures);
      rest =
          class_total earlier classes i class c.loop-class-test.true this lengths c.deref.result.now c.in_ok-spans.spans.items
          c.deref-in-loop-class.result.now _ c.loop-class.total c.count_denied.result c.saturating_add.result c.saturating_add-total.result
          c.deref.ensures.value c.deref-in-loop-class.ensures.value c.loop-class.invariant.known c.in_ok-spans.ensures.meets c.count_denied.ensures
          c.saturating_add.ensures c.saturating_add-total.ensures c.loop-class.invariant.rest
          ∙ ap (λ (ps : List PlainPattern). min (c.saturating_add-total.result + lines_in (lists_from ps (drop (i + 1) classes))) top) (sym patterns);
      lists = λ few.
          class_lists earlier classes i class c.loop-class-test.true this c.loop-class.lists c.push_list.new.lists (lists_from [] classes)
          (c.loop-class.invariant.lists (omega (arith, few, c.saturating_add.ensures, c.saturating_add-total.ensures)))
          (c.in_ok-push_list.ensures few)
          ∙ ap (λ (ps : List PlainPattern). c.push_list.new.lists ++ lists_from ps (drop (i + 1) classes)) (sym patterns);
      index = c.in_ok-earlier.ensures.index;
      known =
          subst (λ (ps : List PlainPattern). AllByRecursion (IsKnown lengths) ps) (sym patterns) (class_is_known earlier classes i class
          c.loop-class-test.true this lengths c.in_ok-lengths.ensures.all c.loop-class.invariant.known c.in_ok-earlier.ensures.rules);
    }
