-- How many of a run of numbers pass a test.
use Rattle.std.proofs.Common.{◌≡◌, ℕ, zero, suc, ◌+◌, ◌-◌, ◌<◌, ◌≤◌, Bool, false, cond, arith, refl, sym, ap, ◌∙◌}
use Rattle.std.proofs.lemmas.List.FromFn.{length-range_with_len}
use Rattle.std.proofs.lemmas.List.Sums.{count_by-le-length, sum_by-cons}
use Rattle.std.specs.List.{count_by, range_with_len}

pub count_first : (p : ℕ → Bool) (a n : ℕ) → count_by p (range_with_len a (suc n)) ≡ cond (p a) 1 0 + count_by p (range_with_len (a + 1) n)
count_first p a n = sum_by-cons (λ x. cond (p x) 1 0) a (range_with_len (a + 1) n)

-- tests of two runs of numbers that agree place by place
pub count_alike : (p q : ℕ → Bool) (a b n : ℕ) → ((k : ℕ) → k < n → p (a + k) ≡ q (b + k)) → count_by p (range_with_len a n) ≡ count_by q (range_with_len b n)
count_alike p q a b zero h = refl
count_alike p q a b (suc n) h =
    let at_a : a ≡ a + 0 = omega arith in
    let at_b : b + 0 ≡ b = omega arith in
    let first : p a ≡ q b = ap p at_a ∙ h 0 (omega arith) ∙ ap q at_b in
    let rest : count_by p (range_with_len (a + 1) n) ≡ count_by q (range_with_len (b + 1) n) = count_alike p q (a + 1) (b + 1) n (λ k lt.
    let to_a : (a + 1) + k ≡ a + suc k = omega arith in
    let to_b : b + suc k ≡ (b + 1) + k = omega arith in
    ap p to_a ∙ h (suc k) (omega arith) ∙ ap q to_b) in
    count_first p a n ∙ ap (λ (z : Bool). cond z 1 0 + count_by p (range_with_len (a + 1) n)) first ∙ ap (λ (z : ℕ). cond (q b) 1 0 + z) rest ∙ sym (count_first q b n)

-- tests of one run of numbers and of the next
pub count_split : (p : ℕ → Bool) (a m n : ℕ) → count_by p (range_with_len a (m + n)) ≡ count_by p (range_with_len a m) + count_by p (range_with_len (a + m) n)
count_split p a zero n =
    let none : 0 + n ≡ n = omega arith in
    let start : a ≡ a + 0 = omega arith in
    let no_more : count_by p (range_with_len (a + 0) n) ≡ 0 + count_by p (range_with_len (a + 0) n) = omega arith in
    ap (λ z. count_by p (range_with_len a z)) none ∙ ap (λ z. count_by p (range_with_len z n)) start ∙ no_more
count_split p a (suc m) n =
    let longer : suc m + n ≡ suc (m + n) = omega arith in
    let behind : (a + 1) + m ≡ a + suc m = omega arith in
    let rest : count_by p (range_with_len (a + 1) (m + n)) ≡ count_by p (range_with_len (a + 1) m) + count_by p (range_with_len (a + suc m) n) =
    count_split p (a + 1) m n ∙ ap (λ z. count_by p (range_with_len (a + 1) m) + count_by p (range_with_len z n)) behind in
    ap (λ z. count_by p (range_with_len a z)) longer ∙ count_first p a (m + n) ∙ ap (λ (z : ℕ). cond (p a) 1 0 + z) rest
    ∙ regroup (cond (p a) 1 0) (count_by p (range_with_len (a + 1) m)) (count_by p (range_with_len (a + suc m) n))
    ∙ ap (λ (z : ℕ). z + count_by p (range_with_len (a + suc m) n)) (sym (count_first p a m))
  where
    regroup : (x y z : ℕ) → x + (y + z) ≡ (x + y) + z
    regroup x y z = omega arith

pub count_within : (p : ℕ → Bool) (a n : ℕ) → count_by p (range_with_len a n) ≤ n
count_within p a n = omega (arith, count_by-le-length p (range_with_len a n), length-range_with_len a n)

-- where none passes there are none
pub count_none : (p : ℕ → Bool) (a n : ℕ) → ((k : ℕ) → a ≤ k → p k ≡ false) → count_by p (range_with_len a n) ≡ 0
count_none p a zero h = refl
count_none p a (suc n) h =
    count_first p a n ∙ ap (λ (z : Bool). cond z 1 0 + count_by p (range_with_len (a + 1) n)) (h a (omega arith))
    ∙ ap (λ (z : ℕ). 0 + z) (count_none p (a + 1) n (λ k le. h k (omega arith)))

pub count_to : (p : ℕ → Bool) (bits all : ℕ) → bits ≤ all → ((k : ℕ) → bits ≤ k → p k ≡ false) → count_by p (range_with_len 0 all) ≡ count_by p (range_with_len 0 bits)
count_to p bits all le h =
    let e : all ≡ bits + (all - bits) = omega arith in
    let start : 0 + bits ≡ bits = omega arith in
    let none : count_by p (range_with_len (0 + bits) (all - bits)) ≡ 0 = ap (λ z. count_by p (range_with_len z (all - bits))) start ∙ count_none p bits (all - bits) h in
    ap (λ z. count_by p (range_with_len 0 z)) e ∙ count_split p 0 bits (all - bits) ∙ omega (arith, none)
