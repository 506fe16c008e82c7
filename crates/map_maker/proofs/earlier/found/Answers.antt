use Rattle.std.proofs.Common.{◌≡◌, ◌∙◌, List, [], ap, subst, get_or}
use Rattle.std.specs.Prelude.{◌||◌, ◌&&◌}
use Rattle.std.specs.List.{list_any, AllByRecursion}
use Rattle.std.proofs.lemmas.List.{get_or_default}
use Rattle.map_maker.specs.Keys.{has, in_some}
use Rattle.map_maker.specs.Earlier.{is_at, IsInOrder}
use Rattle.map_maker.specs.declared.earlier.Entry.{Entry}
use Rattle.map_maker.proofs.EarlierLaws.{rest_of, found_in_next}
use Rattle.map_maker.proofs.earlier.found.Goals as goal

pub loop-block-preserved : goal.loop-block-preserved
loop-block-preserved c =
    let i = c.loop-block.block-index in
    let blocks = c.args.blocks.now in
    let before = c.loop-block.places.items in
    let this : c.as_slice.result.now ≡ get_or blocks i [] = c.as_slice.ensures ∙ c.block-item.is ∙ get_or_default blocks i c.block-item.result [] c.loop-block-test.true in
    record {
      rest = λ j.
          found_in_next (λ (e : Entry). in_some c.args.spans.now e.key && is_at j e) blocks i _ (has before j) (has c.push_found.new.places.items j)
          c.loop-block-test.true (c.loop-block.invariant.rest j)
          (c.in_ok-push_found.ensures j ∙ ap (λ (b : List Entry). has before j || list_any (λ (e : Entry). in_some c.args.spans.now e.key && is_at j e) b) this);
      order = (subst (λ (bs : List (List Entry)). AllByRecursion IsInOrder bs) (rest_of blocks i [] c.loop-block-test.true) c.loop-block.invariant.order).1;
    }
