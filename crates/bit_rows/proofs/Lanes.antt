-- Four words of a row that are written at once.
use Rattle.std.proofs.Common.{◌≡◌, ℕ, zero, suc, inl, inr, w64, [], ◌∷◌, map, ◌+◌, ◌-◌, ◌<◌, ◌≤◌, List, length, get_or, arith, refl, sym, ap, ◌∙◌}
use Rattle.std.proofs.lemmas.Simd.{length-zip2, length-chunk, get_or-chunk, get_or-zip2, get_or-put_chunk_below, get_or-put_chunk_at, get_or-put_chunk_above}
use Rattle.std.specs.Simd.Lanes.{zip2, chunk, fold_l, put_chunk}
use Rattle.std.proofs.lemmas.Bool.{cases_lt}
use Rattle.std.proofs.lemmas.List.{get_or_past}
use Rattle.std.proofs.lemmas.Nat.{le_or_l, le_or_r}
use Rattle.std.specs.Int.Bits.{or_zero_l}
use Rattle.std.specs.Int.{bit_not}
use Rattle.std.specs.Prelude.{bit_and, bit_or}
use Rattle.bit_rows.specs.Bits.{outside}

pub zip2-map : (f : ℕ → ℕ → ℕ) (h : ℕ → ℕ) (xs ys : List ℕ) → zip2 f xs (map h ys) ≡ zip2 (λ x y. f x (h y)) xs ys
zip2-map f h [] ys = refl
zip2-map f h (x ∷ xs) [] = refl
zip2-map f h (x ∷ xs) (y ∷ ys) = ap (λ zs. f x (h y) ∷ zs) (zip2-map f h xs ys)

module _ (f : ℕ → ℕ → ℕ) (at : ℕ) (row other : List ℕ) (len : length other ≡ length row) (room : at + 4 ≤ length row) where
  lanes : List ℕ
  lanes = zip2 f (chunk at 4 row) (chunk at 4 other)

  four : length lanes ≡ 4
  unfolding lanes
  four =
      let a = length-chunk at 4 row room in
      let b = length-chunk at 4 other (omega arith) in
      length-zip2 f (chunk at 4 row) (chunk at 4 other) (a ∙ sym b) ∙ a

  pub lanes_before : (j : ℕ) → j < at → get_or (put_chunk at row (zip2 f (chunk at 4 row) (chunk at 4 other))) j 0 ≡ get_or row j 0
  lanes_before j lt = get_or-put_chunk_below at row (zip2 f (chunk at 4 row) (chunk at 4 other)) j 0 lt

  pub lanes_behind : (j : ℕ) → at + 4 ≤ j → get_or (put_chunk at row (zip2 f (chunk at 4 row) (chunk at 4 other))) j 0 ≡ get_or row j 0
  unfolding lanes
  lanes_behind j le = get_or-put_chunk_above at row (zip2 f (chunk at 4 row) (chunk at 4 other)) j 0 (omega (arith, four))

  pub lanes_here : (j : ℕ) → at ≤ j → j < at + 4 → get_or (put_chunk at row (zip2 f (chunk at 4 row) (chunk at 4 other))) j 0 ≡ f (get_or row j 0) (get_or other j 0)
  unfolding lanes
  lanes_here j le lt =
      let k : ℕ = j - at in
      let small : k < 4 = omega arith in
      let is : at + k ≡ j = omega arith in
      let a = length-chunk at 4 row room in
      let b = length-chunk at 4 other (omega arith) in
      ap (λ i. get_or (put_chunk at row (zip2 f (chunk at 4 row) (chunk at 4 other))) i 0) (sym is)
      ∙ get_or-put_chunk_at at row (zip2 f (chunk at 4 row) (chunk at 4 other)) k 0 (omega (arith, four)) (omega (arith, four))
      ∙ get_or-zip2 f (chunk at 4 row) (chunk at 4 other) k 0 0 0 (omega (arith, a)) (omega (arith, b))
      ∙ ap (λ x. f x (get_or (chunk at 4 other) k 0)) (get_or-chunk at 4 row k 0 small ∙ ap (λ i. get_or row i 0) is)
      ∙ ap (f (get_or row j 0)) (get_or-chunk at 4 other k 0 small ∙ ap (λ i. get_or other i 0) is)

-- ---- four words of three rows

-- no bit is set in any word, where none is in all of them together
pub none_set : (xs : List ℕ) (a : ℕ) → fold_l bit_or a xs ≡ 0 → (a ≡ 0) × ((k : ℕ) → get_or xs k 0 ≡ 0)
none_set [] a h = (h, λ k. refl)
none_set (x ∷ xs) a h =
    let rest : (bit_or a x ≡ 0) × ((k : ℕ) → get_or xs k 0 ≡ 0) = none_set xs (bit_or a x) h in
    (omega (arith, rest.0, le_or_l a x), each (omega (arith, rest.0, le_or_r a x)) rest.1)
  where
    each : x ≡ 0 → ((k : ℕ) → get_or xs k 0 ≡ 0) → (k : ℕ) → get_or (x ∷ xs) k 0 ≡ 0
    each here there zero = here
    each here there (suc k) = there k

pub all_clear : (xs : List ℕ) → ((k : ℕ) → get_or xs k 0 ≡ 0) → fold_l bit_or 0 xs ≡ 0
all_clear [] h = refl
all_clear (x ∷ xs) h = ap (λ z. fold_l bit_or z xs) (or_zero_l x ∙ h 0) ∙ all_clear xs (λ k. h (suc k))

abbrev both_of : ℕ → List ℕ → List ℕ → List ℕ
both_of at a b = zip2 bit_and (chunk at 4 a) (chunk at 4 b)

abbrev outside_of : ℕ → List ℕ → List ℕ → List ℕ → List ℕ
outside_of at a b c = zip2 bit_and (both_of at a b) (map (bit_not w64) (chunk at 4 c))

module _ (at : ℕ) (a b c : List ℕ) (lb : length b ≡ length a) (lc : length c ≡ length a) (room : at + 4 ≤ length a) where
  len_both : length (both_of at a b) ≡ 4
  len_both =
      let x = length-chunk at 4 a room in
      length-zip2 bit_and (chunk at 4 a) (chunk at 4 b) (x ∙ sym (length-chunk at 4 b (omega (arith, lb, room)))) ∙ x

  len_outside : length (outside_of at a b c) ≡ 4
  len_outside =
      ap length (zip2-map bit_and (bit_not w64) (both_of at a b) (chunk at 4 c))
      ∙ length-zip2 (λ p q. bit_and p (bit_not w64 q)) (both_of at a b) (chunk at 4 c) (len_both ∙ sym (length-chunk at 4 c (omega (arith, lc, room)))) ∙ len_both

  lane : (k : ℕ) → k < 4 → get_or (outside_of at a b c) k 0 ≡ outside (get_or a (at + k) 0) (get_or b (at + k) 0) (get_or c (at + k) 0)
  lane k lt =
      let x = length-chunk at 4 a room in
      let y = length-chunk at 4 b (omega (arith, lb, room)) in
      let z = length-chunk at 4 c (omega (arith, lc, room)) in
      ap (λ (l : List ℕ). get_or l k 0) (zip2-map bit_and (bit_not w64) (both_of at a b) (chunk at 4 c))
      ∙ get_or-zip2 (λ p q. bit_and p (bit_not w64 q)) (both_of at a b) (chunk at 4 c) k 0 0 0 (omega (arith, len_both)) (omega (arith, z))
      ∙ ap (λ p. bit_and p (bit_not w64 (get_or (chunk at 4 c) k 0))) (get_or-zip2 bit_and (chunk at 4 a) (chunk at 4 b) k 0 0 0 (omega (arith, x)) (omega (arith, y)))
      ∙ ap (λ p. bit_and (bit_and p (get_or (chunk at 4 b) k 0)) (bit_not w64 (get_or (chunk at 4 c) k 0))) (get_or-chunk at 4 a k 0 lt)
      ∙ ap (λ p. bit_and (bit_and (get_or a (at + k) 0) p) (bit_not w64 (get_or (chunk at 4 c) k 0))) (get_or-chunk at 4 b k 0 lt)
      ∙ ap (λ p. bit_and (bit_and (get_or a (at + k) 0) (get_or b (at + k) 0)) (bit_not w64 p)) (get_or-chunk at 4 c k 0 lt)

  pub lanes_clear : fold_l bit_or 0 (outside_of at a b c) ≡ 0 → (j : ℕ) → at ≤ j → j < at + 4 → outside (get_or a j 0) (get_or b j 0) (get_or c j 0) ≡ 0
  lanes_clear h j le lt =
      let k : ℕ = j - at in
      let small : k < 4 = omega arith in
      let is : at + k ≡ j = omega arith in
      ap (λ i. outside (get_or a i 0) (get_or b i 0) (get_or c i 0)) (sym is) ∙ sym (lane k small) ∙ (none_set (outside_of at a b c) 0 h).1 k

  pub clear_lanes : ((j : ℕ) → at ≤ j → j < at + 4 → outside (get_or a j 0) (get_or b j 0) (get_or c j 0) ≡ 0) → fold_l bit_or 0 (outside_of at a b c) ≡ 0
  clear_lanes h = all_clear (outside_of at a b c) (λ k. elim (cases_lt k 4) [
    | inl lt ↦ lane k lt ∙ h (at + k) (omega arith) (omega arith)
    | inr past ↦ get_or_past (outside_of at a b c) k 0 (omega (arith, len_outside))
  ])
