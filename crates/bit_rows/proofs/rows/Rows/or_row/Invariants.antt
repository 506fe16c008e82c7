use Rattle.std.proofs.Common.{◌≡◌, ◌⊎◌, ℕ, ◌+◌, ◌<◌, ◌≤◌, length, get_or}
use Rattle.std.specs.Prelude.{bit_or}
use Rattle.bit_rows.proofs.rows.Rows.or_row.Given as goal

abbrev pub invariant-loop-i : goal.invariant-loop-i
invariant-loop-i l = record {
  count : l.self-inside.count ≡ l.fn.self.count;
  bits : l.self-inside.bits ≡ l.fn.self.bits;
  width : l.self-inside.width ≡ l.fn.self.width;
  len : length l.self-inside.words.items ≡ length l.fn.self.words;
  done : (j : ℕ) → j < l.i → get_or l.self-inside.words.items (l.to + j) 0 ≡ bit_or (get_or l.fn.self.words (l.to + j) 0) (get_or l.fn.self.words (l.at + j) 0);
  rest : (k : ℕ) → (k < l.to) ⊎ (l.to + l.i ≤ k) → get_or l.self-inside.words.items k 0 ≡ get_or l.fn.self.words k 0;
}
