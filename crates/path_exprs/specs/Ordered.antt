-- Expressions that compare as equal are equal.
use Rattle.std.proofs.Common.{◌≡◌, refl, ap, ◌∙◌}
use Rattle.std.proofs.lemmas.Bool.{false≢true}
use Rattle.std.specs.declared.cmp.Ordering.TheVariants.{Equal}
use Rattle.std.specs.Ordering.{is_eq}
use Rattle.list_law.proofs.Orders.{ordering_then-Equal, slice_cmp-Equal}
use Rattle.path_exprs.specs.Expression.{Expression, never, empty, set, seq, either, both, complement, star, Expressions, none, more}
use Rattle.path_exprs.specs.Order.{compare, compare_lists}

mutual
  pub compare-equal : (e f : Expression) → compare e f ≡ Equal → e ≡ f
  compare-equal never never h = refl
  compare-equal empty empty h = refl
  compare-equal (set s) (set t) h = ap (λ ws. set (record { words = ws })) (slice_cmp-Equal s.words t.words h)
  compare-equal (seq a b) (seq c d) h =
      let both = ordering_then-Equal (compare a c) (compare b d) h in
      ap (seq a) (compare-equal b d both.1) ∙ ap (λ x. seq x d) (compare-equal a c both.0)
  compare-equal (either es) (either fs) h = ap either (lists-equal es fs h)
  compare-equal (both es) (both fs) h = ap both (lists-equal es fs h)
  compare-equal (complement a) (complement b) h = ap complement (compare-equal a b h)
  compare-equal (star a) (star b) h = ap star (compare-equal a b h)
  compare-equal e f h = absurd (false≢true (ap is_eq h))

  pub lists-equal : (es fs : Expressions) → compare_lists es fs ≡ Equal → es ≡ fs
  lists-equal none none h = refl
  lists-equal none (more f fs) h = absurd (false≢true (ap is_eq h))
  lists-equal (more e es) none h = absurd (false≢true (ap is_eq h))
  lists-equal (more e es) (more f fs) h =
      let both = ordering_then-Equal (compare e f) (compare_lists es fs) h in
      ap (more e) (lists-equal es fs both.1) ∙ ap (λ x. more x fs) (compare-equal e f both.0)
