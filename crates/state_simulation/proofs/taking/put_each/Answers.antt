use Rattle.std.proofs.Common.{◌≡◌, ◌<◌, ℕ, Bool, true, false, cond, not, ◌&&◌, ◌||◌, eqb, length, length-set, arith, inl, inr, sym, ap, ◌∙◌}
use Rattle.std.proofs.lemmas.Bool.{and_left, both_ways, cases_eq, cases_lt, cond-false, cond-true, eq-eqb, ne_eqb, not-true, not-false}
use Rattle.bit_rows.specs.Bits.{has}
use Rattle.bit_rows.specs.Tables.{IsSameSize, PlainRows, has_at, row_of}
use Rattle.state_simulation.specs.Targets.{differs}
use Rattle.state_simulation.proofs.Putting.{put_more, same_bit, some_bit}
use Rattle.state_simulation.proofs.Sizes.{size_then, size_where}
use Rattle.state_simulation.proofs.taking.put_each.Goals as goal
use Rattle.state_simulation.proofs.taking.put_each.Goals.{then-is_lost, else-is_lost}

pub loop-n-preserved : goal.loop-n-preserved
loop-n-preserved c =
    let inv = c.loop-n.invariant in
    let left : PlainRows = c.loop-n.left in
    let next : PlainRows = c.args.next.now in
    let n : ℕ = c.loop-n.n in
    let size : ℕ = length c.args.touched.now in
    let lt : n < size = omega (arith, c.loop-n-test.true) in
    let inside : n < left.count = omega (arith, lt, inv.size.count, c.requires.left.count) in
    let lost : Bool = not c.outside_is_empty-is_lost.result in
    let asked : (b : ℕ) → (has c.row.result.now b && (has c.row-in-loop-n.result.now b && not (has c.row-in-loop-n-2.result.now b))) ≡ differs left next n b = λ b.
    ap (λ l. has l b && (has c.row-in-loop-n.result.now b && not (has c.row-in-loop-n-2.result.now b))) c.row.ensures.words
    ∙ ap (λ l. has (row_of left n) b && (has l b && not (has c.row-in-loop-n-2.result.now b))) c.row-in-loop-n.ensures.words
    ∙ ap (λ l. has (row_of left n) b && (has (row_of left n) b && not (has l b))) c.row-in-loop-n-2.ensures.words in
    let none : lost ≡ false → (b : ℕ) → differs left next n b ≡ false = λ e b. sym (asked b) ∙ c.outside_is_empty-is_lost.ensures.0 (not-false _ e) b in
    let some : lost ≡ true → (b : ℕ) × (b < c.args.left.now.bits) × (differs left next n b ≡ true) = λ e.
    (let x = some_bit left.bits (differs left next n) (λ k le. and_left _ _ (c.row.ensures.table.clear n k inside le))
    (λ each. both_ways _ (not-true _ e) (c.outside_is_empty-is_lost.ensures.1 (λ k. asked k ∙ each k))) in
    (x.0, omega (arith, x.1, inv.size.bits), x.2)) in
    let same : lost ≡ false → (b : ℕ) → has_at left n b ≡ has_at next n b = λ e b. same_bit (has_at left n b) (has_at next n b)
    (λ h. elim (cases_lt b size) [
      | inl lb ↦ inv.rest n b (omega arith) lt ∙ c.requires.within n b lt lb h
      | inr past ↦
          absurd (both_ways _ (c.row-in-loop-n-2.ensures.table.clear n b (omega (arith, lt, c.requires.next.count, c.requires.left.count))
          (omega (arith, past, c.requires.next.bits, c.requires.left.bits))) h)
    ]) (none e b) in
    let turned : IsSameSize c.if-is_lost.left c.args.left.now
    × ((r b : ℕ) → r < size → has_at c.if-is_lost.left r b ≡ cond (eqb r n) (has_at next n b) (has_at left r b))
    × (c.if-is_lost.changed ≡ (lost || c.loop-n.changed)) = elim c.if-is_lost.branch [
      | then-is_lost w ↦ (
          let is : lost ≡ true = ap not w.if-is_lost.true in (
            size_where w.left-is (size_then w.put.ensures.size inv.size),
            λ r b lr. ap (λ (z : PlainRows). has_at z r b) w.left-is ∙ w.put.ensures.bits r b (omega (arith, lr, inv.size.count, c.requires.left.count))
                ∙ ap (λ l. cond (eqb r n) (has l b) (has_at left r b)) w.row-then-is_lost.ensures.words,
            w.changed-is ∙ sym (ap (λ z. z || c.loop-n.changed) is),
          ))
      | else-is_lost w ↦ (
          let is : lost ≡ false = ap not w.if-is_lost.false in (
            size_where w.left-is inv.size,
            λ r b lr. ap (λ (z : PlainRows). has_at z r b) w.left-is ∙ elim (cases_eq r n) [
              | inl e ↦ ap (λ z. has_at left z b) e ∙ same is b ∙ sym (cond-true (eqb r n) (has_at next n b) (has_at left r b) (eq-eqb _ _ e))
              | inr ne ↦ sym (cond-false (eqb r n) (has_at next n b) (has_at left r b) (ne_eqb _ _ ne))
            ],
            w.changed-is ∙ sym (ap (λ z. z || c.loop-n.changed) is),
          ))
    ] in
    let changed = turned.2 in
    record {
      size = turned.0;
      len = length-set c.loop-n.touched n lost ∙ inv.len;
      put = rw changed (put_more next c.args.left.now left c.if-is_lost.left c.loop-n.touched c.loop-n.changed lost size n lt inv.len inv.put inv.rest turned.1 none some);
      rest = λ r b le lr. turned.1 r b lr ∙ cond-false (eqb r n) (has_at next n b) (has_at left r b) (ne_eqb _ _ (λ e. omega (arith, le, e))) ∙ inv.rest r b (omega (arith, le)) lr;
    }
