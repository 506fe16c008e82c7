use Rattle.std.proofs.Common.{◌≡◌, ◌&&◌, ℕ, true, not, ltb, get_or, arith, sym, ap, ◌∙◌}
use Rattle.std.proofs.lemmas.Bool.{and_from, and_parts, both_ways, lt-ltb, ltb-true, not-true, or_right}
use Rattle.std.proofs.lemmas.List.{take_all}
use Rattle.bit_rows.specs.Bits.{has as has_bit}
use Rattle.bit_rows.specs.Tables.{PlainRows, has_at}
use Rattle.reach_prune.specs.Searches.{is_among}
use Rattle.relation_law.proofs.Tests.{any_at, none_below}
use Rattle.state_simulation.specs.Held.{are_together, has}
use Rattle.state_simulation.proofs.Masking.{each_more}
use Rattle.preference_numbers.proofs.classes.is_first_of_class.Goals as goal

pub loop-q-preserved : goal.loop-q-preserved
loop-q-preserved c =
    let r = c.args.relation.now in
    let p = c.args.p in
    each_more (λ q. not (ltb q p && (has r p q && has r q p))) c.as_slice-q-items.result.now c.loop-q.q-index c.loop-q-test.true c.loop-q.invariant (sym (ap not c.if-is_earlier_equal.ensures))

pub returns-then-is_earlier_equal : goal.returns-then-is_earlier_equal
returns-then-is_earlier_equal c =
    let r = c.args.relation.now in
    let p = c.args.p in
    let q : ℕ = get_or c.as_slice-q-items.result.now c.loop-q.q-index 0 in
    let both = and_parts (ltb q p) (has r p q && has r q p) (sym c.if-is_earlier_equal.ensures) in
    sym (ap not (any_at p (λ q. has r p q && has r q p) q (ltb-true _ _ both.0) both.1))

pub returns : goal.returns
returns c =
    let r = c.args.relation.now in
    let p = c.args.p in
    let nodes = c.as_slice-q-items.result.now in
    let listed : (q : ℕ) → has_at r.rows p q ≡ true → is_among nodes q ≡ true = λ q h.
    ap (λ l. is_among l q) c.as_slice-q-items.ensures.value ∙ c.in_ok-add_members.ensures q
    ∙ or_right _ _ (ap (λ l. has_bit l q) c.row.ensures.words ∙ ap (λ (z : PlainRows). has_at z p q) c.rows.ensures.rows ∙ h) in
    sym (ap not (none_below p (λ q. has r p q && has r q p) (λ q lt e.
    let bit : has_at r.rows p q ≡ true = (and_parts (are_together r q p) (has_at r.rows p q) (and_parts (has r p q) (has r q p) e).1).1 in
    let none = c.loop-q.invariant q (ap (λ l. is_among l q) (take_all c.loop-q.q-index nodes (omega (arith, c.loop-q-test.false))) ∙ listed q bit) in
    both_ways _ (not-true _ none) (and_from _ _ (lt-ltb _ _ lt) e))))
