use Rattle.std.proofs.Common.{◌∙◌, ap, sym, take}
use Rattle.std.specs.Prelude.{◌||◌}
use Rattle.std.proofs.lemmas.List.Folds.{list_any_more}
use Rattle.net_base.specs.Prefixes.{PlainPattern}
use Rattle.route_maps.specs.OfConfig.{meets_some}
use Rattle.route_maps.specs.Overlaps.{overlap}
use Rattle.map_maker.proofs.spans.spans_of.Goals as goal

pub loop-pattern-preserved : goal.loop-pattern-preserved
loop-pattern-preserved c = λ q lq known.
    let i = c.loop-pattern.pattern-index in
    let pattern : PlainPattern = c.pattern-item.result in
    c.in_ok-push_spans.ensures q lq known
    ∙ ap (λ b. b || overlap q pattern) (c.loop-pattern.invariant q lq known)
    ∙ ap (λ (p : PlainPattern). meets_some (take i c.args.class.now) q || overlap q p) c.pattern-item.is
    ∙ sym (list_any_more (λ (p : PlainPattern). overlap q p) c.args.class.now i pattern c.loop-pattern-test.true)
