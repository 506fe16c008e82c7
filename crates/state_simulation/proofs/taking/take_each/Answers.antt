use Rattle.std.proofs.Common.{◌≡◌, ◌+◌, ◌<◌, ℕ, Bool, true, false, not, ◌&&◌, ◌||◌, length, get_or, take, Option, arith, refl, sym, ap, subst, ◌∙◌}
use Rattle.std.specs.List.{list_any}
use Rattle.std.specs.Option.{IfSome}
use Rattle.std.proofs.Math.Bool.{or-false}
use Rattle.std.proofs.lemmas.List.{take_all}
use Rattle.std.proofs.lemmas.List.Folds.{list_any_more}
use Rattle.bit_rows.specs.Bits.{has}
use Rattle.bit_rows.specs.Tables.{PlainRows, has_at}
use Rattle.graph_base.specs.Runs.{has_step}
use Rattle.reach_prune.specs.Searches.{is_among}
use Rattle.relation_law.specs.Rounds.{fails_at}
use Rattle.state_simulation.specs.Looked.{shown}
use Rattle.state_simulation.specs.Targets.{IsMaskOf, gone_in, is_touched, tells}
use Rattle.state_simulation.proofs.Masking.{located_any, taken_more}
use Rattle.state_simulation.proofs.Sizes.{size_then, size_where}
use Rattle.state_simulation.proofs.taking.take_each.Goals as goal
use Rattle.state_simulation.proofs.taking.take_each.Goals.{then-touched-t, else-touched-t}

pub loop-t-preserved : goal.loop-t-preserved
loop-t-preserved c =
    let inv = c.loop-t.invariant in
    let g = c.args.maps.now.graph.now in
    let order = c.by_location-t-items.result.now in
    let i : ℕ = c.loop-t.t-index in
    let t : ℕ = get_or order i 0 in
    let lt : t < length g.nodes = c.by_location-t-items.ensures.within i 0 c.loop-t-test.true in
    let fails : ℕ → Bool = λ m. fails_at (shown g) (tells c.args.onwards.now) (gone_in c.args.left.now) m t in
    let goes : ℕ → ℕ → ℕ → Bool = λ n m t. is_touched c.args.touched.now t && (has_step g n t && fails_at (shown g) (tells c.args.onwards.now) (gone_in c.args.left.now) m t) in
    let before : ℕ → ℕ → Bool = λ n m. list_any (goes n m) (take i order) in
    let old : ℕ → ℕ → Bool = λ n m. has_at c.args.next.now n m in
    let more : (n m : ℕ) → (before n m || goes n m t) ≡ list_any (goes n m) (take (i + 1) order) = λ n m. sym (list_any_more (goes n m) order i 0 c.loop-t-test.true) in
    elim c.if-touched-t.branch [
      | then-touched-t w ↦ (
          let is : is_touched c.args.touched.now t ≡ true = w.if-touched-t.true in
          record {
            size = size_where w.next-is (size_then w.keep_each.ensures.size inv.size);
            mask = ap length w.mask-is ∙ w.make_mask.ensures.len ∙ inv.mask;
            looped = ap length w.looped-is ∙ w.make_mask.ensures.looped ∙ inv.looped;
            held = subst (λ (o : Option ℕ). IfSome o (λ s. s < length g.nodes)) (sym w.held-is) lt;
            masked =
                subst (λ (o : Option ℕ). IfSome o (IsMaskOf g c.args.onwards.now c.args.left.now c.if-touched-t.mask)) (sym w.held-is)
                (λ m lm. ap (λ l. has l m) w.mask-is ∙ w.make_mask.ensures.bits m lm);
            bits = λ n m ln lm. ap (λ (z : PlainRows). has_at z n m) w.next-is ∙ w.keep_each.ensures.bits n m (omega (arith, ln, inv.size.count, c.requires.next.count))
                ∙ ap (λ z. z && (not (is_among w.before-then-touched-t.result.now n) || has w.make_mask.new.mask m)) (inv.bits n m ln lm)
                ∙ ap (λ z. (old n m && not (before n m)) && (not z || has w.make_mask.new.mask m)) (w.before-then-touched-t.ensures.members n)
                ∙ ap (λ z. (old n m && not (before n m)) && (not (has_step g n t) || z)) (w.make_mask.ensures.bits m lm)
                ∙ taken_more (old n m) (before n m) (has_step g n t) (fails m)
                ∙ sym (ap (λ z. old n m && not (before n m || (z && (has_step g n t && fails m)))) is)
                ∙ ap (λ z. old n m && not z) (more n m);
          })
      | else-touched-t w ↦ (
          let is : is_touched c.args.touched.now t ≡ false = w.if-touched-t.false in
          record {
            size = size_where w.next-is inv.size;
            mask = ap length w.mask-is ∙ inv.mask;
            looped = ap length w.looped-is ∙ inv.looped;
            held = subst (λ (o : Option ℕ). IfSome o (λ s. s < length g.nodes)) (sym w.held-is) inv.held;
            masked = rw (w.held-is, w.mask-is) inv.masked;
            bits = λ n m ln lm. ap (λ (z : PlainRows). has_at z n m) w.next-is ∙ inv.bits n m ln lm
                ∙ sym (ap (λ z. old n m && not z) (or-false (before n m)))
                ∙ sym (ap (λ z. old n m && not (before n m || (z && (has_step g n t && fails m)))) is)
                ∙ ap (λ z. old n m && not z) (more n m);
          })
    ]

pub returns-clause-bits : goal.returns-clause-bits
returns-clause-bits c = λ n m ln lm.
    let g = c.args.maps.now.graph.now in
    let order = c.by_location-t-items.result.now in
    let goes : ℕ → Bool = λ t. is_touched c.args.touched.now t && (has_step g n t && fails_at (shown g) (tells c.args.onwards.now) (gone_in c.args.left.now) m t) in
    c.loop-t.invariant.bits n m ln lm ∙ ap (λ l. has_at c.args.next.now n m && not (list_any goes l)) (take_all c.loop-t.t-index order (omega (arith, c.loop-t-test.false)))
    ∙ ap (λ z. has_at c.args.next.now n m && not z) (located_any order (length g.nodes) (λ x. true) goes goes c.by_location-t-items.ensures.within c.by_location-t-items.ensures.each (λ x lt. refl))
