use Rattle.std.proofs.Common.{◌≡◌, ◌⊎◌, ℕ, ◌+◌, ◌*◌, ◌<◌, ◌≤◌, ◌&&◌, ◌||◌, eqb, List, length, get_or, take, drop, length-set, inl, inr, arith, sym, subst, ap, ◌∙◌}
use Rattle.std.specs.Prelude.{bit_or}
use Rattle.std.proofs.lemmas.List.{get_or_default}
use Rattle.bit_rows.specs.Bits.{has}
use Rattle.bit_rows.specs.Tables.{IsTable, PlainRows, has_at}
use Rattle.bit_rows.proofs.Joining.{joined_bits, joined_more, joined_rest, joined_table, rows_apart}
use Rattle.bit_rows.proofs.Writing.{plain, row_inside}
use Rattle.bit_rows.proofs.rows.Rows.or_row.Goals as goal
use Rattle.bit_rows.proofs.rows.Rows.or_row.Goals.{After-loop-i}

pub index-requires : goal.index-requires
index-requires c =
    let ends = row_inside c.self.inside c.args.self.now c.self.view_is c.self.invariant c.args.from c.requires.from in
    omega (arith, ends, c.loop-i.invariant.len, c.loop-i.self-inside.words.ok.0)

pub index_mut-requires : goal.index_mut-requires
index_mut-requires c =
    let ends = row_inside c.self.inside c.args.self.now c.self.view_is c.self.invariant c.args.into c.requires.into in
    omega (arith, ends, c.loop-i.invariant.len, c.loop-i.self-inside.words.ok.0)

pub loop-i-preserved : goal.loop-i-preserved
loop-i-preserved c =
    let inv = c.loop-i.invariant in
    let now : List ℕ = c.loop-i.self-inside.words.items in
    let to : ℕ = c.args.into * c.self.inside.width in
    let at : ℕ = c.args.from * c.self.inside.width in
    let inside : to + c.loop-i.i < length now = omega (arith, row_inside c.self.inside c.args.self.now c.self.view_is c.self.invariant c.args.into c.requires.into, inv.len, c.loop-i-test.true) in
    let inside_at : at + c.loop-i.i < length now = omega (arith, row_inside c.self.inside c.args.self.now c.self.view_is c.self.invariant c.args.from c.requires.from, inv.len, c.loop-i-test.true) in
    let apart = rows_apart c.args.into c.args.from c.self.inside.width in
    let read_to : c.index_mut.result.now ≡ get_or now (to + c.loop-i.i) 0 = c.index_mut.ensures.value ∙ get_or_default now (to + c.loop-i.i) c.index_mut.result.now 0 inside in
    let read_at : c.index.result.now ≡ get_or now (at + c.loop-i.i) 0 = c.index.ensures ∙ get_or_default now (at + c.loop-i.i) c.index.result.now 0 inside_at in
    record {
      count = inv.count;
      bits = inv.bits;
      width = inv.width;
      len = length-set now (to + c.loop-i.i) (bit_or c.index_mut.result.now c.index.result.now) ∙ inv.len;
      done = joined_more c.args.self.now.words now to at c.self.inside.width c.loop-i.i c.index_mut.result.now c.index.result.now inside c.loop-i-test.true apart read_to read_at inv.done inv.rest;
      rest = joined_rest c.args.self.now.words now to at c.self.inside.width c.loop-i.i c.index_mut.result.now c.index.result.now inside c.loop-i-test.true apart read_to read_at inv.done inv.rest;
    }

module _ (c : After-loop-i) where
  r : PlainRows
  r = plain c.self.inside

  words : List ℕ
  words = c.loop-i.self-inside.words.items

  view : r ≡ c.args.self.now
  unfolding r
  view = c.self.view_is

  read : (k : ℕ) → get_or c.args.self.now.words k 0 ≡ get_or r.words k 0
  read k = ap (λ (t : PlainRows). get_or t.words k 0) (sym view)

  done : (j : ℕ) → j < r.width → get_or words (c.args.into * r.width + j) 0 ≡ bit_or (get_or r.words (c.args.into * r.width + j) 0) (get_or r.words (c.args.from * r.width + j) 0)
  unfolding r words
  done j lt =
      c.loop-i.invariant.done j (omega (arith, lt, c.loop-i-test.false))
      ∙ ap (λ z. bit_or z (get_or c.args.self.now.words (c.args.from * c.self.inside.width + j) 0)) (read (c.args.into * c.self.inside.width + j))
      ∙ ap (bit_or (get_or c.self.inside.words.items (c.args.into * c.self.inside.width + j) 0)) (read (c.args.from * c.self.inside.width + j))

  rest : (k : ℕ) → (k < c.args.into * r.width) ⊎ (c.args.into * r.width + r.width ≤ k) → get_or words k 0 ≡ get_or r.words k 0
  unfolding r words
  rest k beside = c.loop-i.invariant.rest k (elim beside [ inl below ↦ inl below | inr above ↦ inr (omega (arith, above, c.loop-i.auto.i-end)) ]) ∙ read k

pub invariant_of-self : goal.invariant_of-self
unfolding r words
invariant_of-self c =
    let inv = c.loop-i.invariant in
    let count : c.self.inside.count ≡ c.loop-i.self-inside.count = ap (λ (t : PlainRows). t.count) (view c) ∙ sym inv.count in
    let bits : c.self.inside.bits ≡ c.loop-i.self-inside.bits = ap (λ (t : PlainRows). t.bits) (view c) ∙ sym inv.bits in
    let width : c.self.inside.width ≡ c.loop-i.self-inside.width = ap (λ (t : PlainRows). t.width) (view c) ∙ sym inv.width in
    let from : c.args.from < c.self.inside.count = omega (arith, c.requires.from, ap (λ (t : PlainRows). t.count) (view c)) in
    subst (λ (t : ℕ × ℕ × ℕ). IsTable (record { count = t.0; bits = t.1; width = t.2; words = c.loop-i.self-inside.words.items })) (λ i. (count i, bits i, width i))
    (joined_table (r c) c.args.into c.args.from (words c) c.self.invariant (done c) (rest c) (inv.len ∙ ap (λ (t : PlainRows). length t.words) (sym (view c))) from)

pub returns-clause-bits : goal.returns-clause-bits
unfolding r words
returns-clause-bits c = λ row b lt.
    let inv = c.loop-i.invariant in
    let width : c.loop-i.self-inside.width ≡ c.self.inside.width = inv.width ∙ ap (λ (t : PlainRows). t.width) (sym (view c)) in
    ap (λ w. has (take w (drop (row * w) c.loop-i.self-inside.words.items)) b) width ∙ joined_bits (r c) c.args.into c.args.from (words c) c.self.invariant (done c) (rest c) row b
    ∙ ap (λ (t : PlainRows). has_at t row b || (eqb row c.args.into && has_at t c.args.from b)) (view c)
