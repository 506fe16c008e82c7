-- The two halves of a prefix.
use Rattle.std.proofs.Common.{◌≡◌, ℕ, zero, suc, ◌+◌, ◌-◌, ◌*◌, ◌/◌, ◌%◌, ◌^◌, ◌<◌, ◌≤◌, inl, inr, refl, ap, sym, subst, ◌∙◌, arith}
use Rattle.std.specs.Prelude.{◌⊎◌}
use Rattle.std.proofs.lemmas.Nat.{shr-shr, shl-shr, shr_split, pow-add, div-add-mod', mod_below, pow_pos, shr_high, shr_below, row_fits, pow_below}
use Rattle.std.proofs.Math.Nat.{mul-mod_left}
use Rattle.net_base.specs.Prefixes.{PlainPrefix, IsPrefix}
use Rattle.lint_cover.specs.Covered.{low_half, high_half}

-- a number without the last k + 1 bits
even : (b k : ℕ) → b % 2 ^ (k + 1) ≡ 0 → b ≡ (b / 2 ^ (k + 1) * 2) * 2 ^ k
even b k clean =
    let whole : b / 2 ^ (k + 1) * 2 ^ (k + 1) ≡ b = omega (arith, shr_split b (k + 1), clean) in
    let two : 2 ^ (k + 1) ≡ 2 ^ k * 2 = pow-add 2 k 1 in
    sym whole ∙ ap (λ w. b / 2 ^ (k + 1) * w) two ∙ grind arith

low_bits : (b k : ℕ) → b % 2 ^ (k + 1) ≡ 0 → b / 2 ^ k ≡ b / 2 ^ (k + 1) * 2
low_bits b k clean = ap (λ n. n / 2 ^ k) (even b k clean) ∙ shl-shr (b / 2 ^ (k + 1) * 2) k

odd : (b k : ℕ) → b % 2 ^ (k + 1) ≡ 0 → b + 2 ^ k ≡ (b / 2 ^ (k + 1) * 2 + 1) * 2 ^ k
odd b k clean = ap (λ n. n + 2 ^ k) (even b k clean) ∙ grind arith

high_bits : (b k : ℕ) → b % 2 ^ (k + 1) ≡ 0 → (b + 2 ^ k) / 2 ^ k ≡ b / 2 ^ (k + 1) * 2 + 1
high_bits b k clean = ap (λ n. n / 2 ^ k) (odd b k clean) ∙ shl-shr (b / 2 ^ (k + 1) * 2 + 1) k

pub low_clean : (b k : ℕ) → b % 2 ^ (k + 1) ≡ 0 → b % 2 ^ k ≡ 0
low_clean b k clean = ap (λ n. n % 2 ^ k) (even b k clean) ∙ mul-mod_left (b / 2 ^ (k + 1) * 2) (2 ^ k)

pub high_clean : (b k : ℕ) → b % 2 ^ (k + 1) ≡ 0 → (b + 2 ^ k) % 2 ^ k ≡ 0
high_clean b k clean = ap (λ n. n % 2 ^ k) (odd b k clean) ∙ mul-mod_left (b / 2 ^ (k + 1) * 2 + 1) (2 ^ k)

-- what has the first bits of the whole has those of one half
pub one_half : (x b k : ℕ) → b % 2 ^ (k + 1) ≡ 0 → x / 2 ^ (k + 1) ≡ b / 2 ^ (k + 1) → (x / 2 ^ k ≡ b / 2 ^ k) ⊎ (x / 2 ^ k ≡ (b + 2 ^ k) / 2 ^ k)
one_half x b k clean same = by_last (x / 2 ^ k % 2) refl
  where
    above : x / 2 ^ k / 2 ≡ b / 2 ^ (k + 1)
    above = shr-shr x k 1 ∙ same

    whole : x / 2 ^ k ≡ b / 2 ^ (k + 1) * 2 + x / 2 ^ k % 2
    whole = sym (div-add-mod' (x / 2 ^ k) 2) ∙ ap (λ n. n * 2 + x / 2 ^ k % 2) above

    by_last : (d : ℕ) → x / 2 ^ k % 2 ≡ d → (x / 2 ^ k ≡ b / 2 ^ k) ⊎ (x / 2 ^ k ≡ (b + 2 ^ k) / 2 ^ k)
    by_last zero is = inl (whole ∙ omega (arith, is, low_bits b k clean))
    by_last (suc zero) is = inr (whole ∙ omega (arith, is, high_bits b k clean))
    by_last (suc (suc d)) is = absurd (omega (arith, is, mod_below (x / 2 ^ k) 2 (omega arith)))

-- the upper half of what fits fits
pub high_fits : (b j k : ℕ) → b % 2 ^ (k + 1) ≡ 0 → b < 2 ^ (j + (k + 1)) → b + 2 ^ k < 2 ^ (j + (k + 1))
high_fits b j k clean wide =
    let below : b / 2 ^ (k + 1) < 2 ^ j = shr_below b j (k + 1) wide in
    let fits : b / 2 ^ (k + 1) * 2 ^ (k + 1) + 2 ^ (k + 1) ≤ 2 ^ j * 2 ^ (k + 1) = row_fits (b / 2 ^ (k + 1)) (2 ^ (k + 1)) (2 ^ j) (2 ^ (k + 1)) below (omega arith) in
    omega (arith, fits, shr_split b (k + 1), clean, pow-add 2 j (k + 1), pow-add 2 k 1, pow_pos k)

-- the bits past a length, and past one more
shift : (l : ℕ) → l + 1 ≤ 32 → 31 - l + 1 ≡ 32 - l
shift l below = omega arith

shift_next : (l : ℕ) → l + 1 ≤ 32 → 32 - (l + 1) ≡ 31 - l
shift_next l below = omega arith

clean_past : (p : PlainPrefix) → IsPrefix p → p.len + 1 ≤ 32 → p.bits % 2 ^ (31 - p.len + 1) ≡ 0
clean_past p lawful below = ap (λ e. p.bits % 2 ^ e) (shift p.len below) ∙ lawful.clean

pub low_half-IsPrefix : (p : PlainPrefix) → IsPrefix p → p.len + 1 ≤ 32 → IsPrefix (low_half p)
low_half-IsPrefix p lawful below = record {
  wide = lawful.wide;
  within = below;
  clean = ap (λ e. p.bits % 2 ^ e) (shift_next p.len below) ∙ low_clean p.bits (31 - p.len) (clean_past p lawful below);
}

pub high_wide : (p : PlainPrefix) → IsPrefix p → p.len + 1 ≤ 32 → p.bits + 2 ^ (31 - p.len) < 2 ^ 32
high_wide p lawful below =
    let e : p.len + (31 - p.len + 1) ≡ 32 = omega arith in
    let w : p.bits < 2 ^ (p.len + (31 - p.len + 1)) = subst (λ n. p.bits < 2 ^ n) (sym e) lawful.wide in
    subst (λ n. p.bits + 2 ^ (31 - p.len) < 2 ^ n) e (high_fits p.bits p.len (31 - p.len) (clean_past p lawful below) w)

pub high_half-IsPrefix : (p : PlainPrefix) → IsPrefix p → p.len + 1 ≤ 32 → IsPrefix (high_half p)
high_half-IsPrefix p lawful below = record {
  wide = high_wide p lawful below;
  within = below;
  clean = ap (λ e. (p.bits + 2 ^ (31 - p.len)) % 2 ^ e) (shift_next p.len below) ∙ high_clean p.bits (31 - p.len) (clean_past p lawful below);
}

-- what is longer and inside a prefix is inside one of its halves
pub half_around : (p r : PlainPrefix) → IsPrefix p → p.len + 1 ≤ r.len → p.len + 1 ≤ 32 → r.bits / 2 ^ (32 - p.len) ≡ p.bits / 2 ^ (32 - p.len)
    → (r.bits / 2 ^ (32 - (p.len + 1)) ≡ p.bits / 2 ^ (32 - (p.len + 1))) ⊎ (r.bits / 2 ^ (32 - (p.len + 1)) ≡ (p.bits + 2 ^ (31 - p.len)) / 2 ^ (32 - (p.len + 1)))
half_around p r lawful longer below same =
    rw (shift_next p.len below)
    (one_half r.bits p.bits (31 - p.len) (clean_past p lawful below) (ap (λ e. r.bits / 2 ^ e) (shift p.len below) ∙ same ∙ ap (λ e. p.bits / 2 ^ e) (sym (shift p.len below))))

high_above : (b k : ℕ) → b % 2 ^ (k + 1) ≡ 0 → (b + 2 ^ k) / 2 ^ (k + 1) ≡ b / 2 ^ (k + 1)
high_above b k clean =
    let whole : b ≡ b / 2 ^ (k + 1) * 2 ^ (k + 1) = omega (arith, shr_split b (k + 1), clean) in
    ap (λ n. (n + 2 ^ k) / 2 ^ (k + 1)) whole ∙ shr_high (b / 2 ^ (k + 1)) (k + 1) (2 ^ k) (pow_below k (k + 1) (omega arith))

-- the upper half has the first bits of the whole
pub high_agree : (p : PlainPrefix) → IsPrefix p → p.len + 1 ≤ 32 → (p.bits + 2 ^ (31 - p.len)) / 2 ^ (32 - p.len) ≡ p.bits / 2 ^ (32 - p.len)
high_agree p lawful below =
    ap (λ e. (p.bits + 2 ^ (31 - p.len)) / 2 ^ e) (sym (shift p.len below)) ∙ high_above p.bits (31 - p.len) (clean_past p lawful below) ∙ ap (λ e. p.bits / 2 ^ e) (shift p.len below)
