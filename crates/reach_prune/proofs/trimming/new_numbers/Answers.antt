use Rattle.std.proofs.Common.{◌+◌, ◌∷◌, [], ℕ, Bool, Some, None, length-append, add-one, arith, sym, ap, ◌∙◌}
use Rattle.std.proofs.lemmas.Bool.{cond-false, cond-true}
use Rattle.reach_prune.specs.Searches.{is_marked}
use Rattle.list_law.specs.Counts.{kept_below}
use Rattle.list_law.proofs.Kept.{kept_below-kept, kept_below-left}
use Rattle.reach_prune.proofs.Keeping.{kept_below_le}
use Rattle.reach_prune.proofs.Renumbering.{numbers_more}
use Rattle.reach_prune.proofs.trimming.new_numbers.Goals as goal
use Rattle.reach_prune.proofs.trimming.new_numbers.Goals.{then-keep+in_ok-push, else-keep+in_ok-push-2}

pub overflow_add-count : goal.overflow_add-count
overflow_add-count c = omega (arith, kept_below_le (is_marked c.args.kept.now) c.loop-keep.keep-index)

pub loop-keep-preserved : goal.loop-keep-preserved
loop-keep-preserved c =
    let keep : ℕ → Bool = is_marked c.args.kept.now in
    let i : ℕ = c.loop-keep.keep-index in
    let numbers = c.loop-keep.numbers.items in
    let inv = c.loop-keep.invariant in
    elim c.if-keep.branch [
      | then-keep+in_ok-push w ↦ rw (w.numbers-is, w.in_ok-push.ensures.items, w.count-is) (record {
        size = length-append numbers (Some c.loop-keep.count ∷ []) ∙ ap (λ n. n + 1) inv.size;
        count = ap (λ n. n + 1) inv.count ∙ sym (ap (kept_below keep) (add-one i) ∙ kept_below-kept keep i w.if-keep.true);
        numbers = numbers_more keep numbers i (Some c.loop-keep.count) inv.size inv.numbers (ap Some inv.count ∙ sym (cond-true (keep i) _ _ w.if-keep.true));
      })
      | else-keep+in_ok-push-2 w ↦ rw (w.numbers-is, w.in_ok-push-2.ensures.items, w.count-is) (record {
        size = length-append numbers (None ∷ []) ∙ ap (λ n. n + 1) inv.size;
        count = inv.count ∙ sym (ap (kept_below keep) (add-one i) ∙ kept_below-left keep i w.if-keep.false);
        numbers = numbers_more keep numbers i None inv.size inv.numbers (sym (cond-false (keep i) _ _ w.if-keep.false));
      })
    ]
