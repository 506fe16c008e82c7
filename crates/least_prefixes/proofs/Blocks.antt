-- Between bounds the patterns that contain prefixes of one length are the same.
use Rattle.std.proofs.Common.{◌≡◌, ℕ, suc, ◌+◌, ◌-◌, ◌*◌, ◌/◌, ◌%◌, ◌^◌, ◌<◌, ◌≤◌, true, sym, ap, ◌∙◌, subst, arith, inl, inr}
use Rattle.std.proofs.Common.{mul-le-mul_right, div-add-mod', mod-lt, mod-eq_of_lt, pow_pos, pow-add, mul_assoc}
use Rattle.std.specs.Prelude.{◌&&◌, ◌==◌, nat_le}
use Rattle.std.proofs.lemmas.Bool.{cases_lt, eq-eqb, eqb-true, cases_Bool, leb-true}
use Rattle.list_law.proofs.Truth.{same_tests}
use Rattle.net_base.specs.Prefixes.{PlainPrefix, PlainPattern, IsPrefix, IsPattern, contains}

-- ---- quotients

quotient_low : (n s : ℕ) → n / s * s ≤ n
quotient_low n s = (let whole = div-add-mod' n s in omega (arith, whole))

quotient_high : (n s : ℕ) → 0 < s → n < n / s * s + s
quotient_high n s some = (let whole = div-add-mod' n s in let less = mod-lt n some in omega (arith, whole, less))

-- a lesser quotient stands a whole divisor lower
lower : (a b s : ℕ) → a < b → a * s + s ≤ b * s
lower a b s less = (let more : suc a * s ≤ b * s = mul-le-mul_right s less in omega (arith, more))

quotient_is : (n s b : ℕ) → 0 < s → b * s ≤ n → n < b * s + s → n / s ≡ b
quotient_is n s b some low high = elim (cases_lt (n / s) b) [
  | inl less ↦ (let gap = lower (n / s) b s less in let top = quotient_high n s some in absurd (omega (arith, gap, top, low)))
  | inr other ↦ elim (cases_lt b (n / s)) [
    | inl more ↦ (let gap = lower b (n / s) s more in let bottom = quotient_low n s in absurd (omega (arith, gap, bottom, high)))
    | inr same ↦ omega (arith, other, same)
  ]
]

-- of two multiples the lesser one stands at least one below
multiples : (a b u : ℕ) → a * u < b * u → a * u + u ≤ b * u
multiples a b u less = elim (cases_lt a b) [
  | inl below ↦ lower a b u below
  | inr other ↦ (let back : b * u ≤ a * u = mul-le-mul_right u (omega (arith, other)) in absurd (omega (arith, less, back)))
]

-- A block of s, k times u, that begins at a multiple of s, and a multiple n of u: n is in the block exactly where the multiple below n is,
-- unless the block begins or ends at n.
module _ (u k s x m n : ℕ) (some : 0 < u) (large : 0 < s) (whole : s ≡ k * u) (of : n ≡ m * u) (one : u ≤ n) (begins : n ≡ x * s → ⊥) (ends : n ≡ x * s + s → ⊥) where
  first : x * s ≡ x * k * u
  first = ap (λ t. x * t) whole ∙ sym (mul_assoc x k u)

  last : x * s + s ≡ (x * k + k) * u
  last = omega (arith, first, whole)

  there : (n / s == x) ≡ true → ((n - u) / s == x) ≡ true
  there h =
      let is = eqb-true (n / s) x h in
      let low : x * s ≤ n = subst (λ q. q * s ≤ n) is (quotient_low n s) in
      let high : n < x * s + s = subst (λ q. n < q * s + s) is (quotient_high n s large) in
      let past : x * k * u < m * u = omega (arith, first, of, low, begins) in
      let apart = multiples (x * k) m u past in
      eq-eqb ((n - u) / s) x (quotient_is (n - u) s x large (omega (arith, apart, first, of, one)) (omega (arith, high)))

  inside : n - u < x * s + s → n < x * s + s
  inside high = elim (cases_lt n (x * s + s)) [
    | inl less ↦ less
    | inr other ↦
        let past : (x * k + k) * u < m * u = omega (arith, other, ends, last, of) in
        let apart = multiples (x * k + k) m u past in
        absurd (omega (arith, apart, high, last, of, one))
  ]

  back : ((n - u) / s == x) ≡ true → (n / s == x) ≡ true
  back h =
      let is = eqb-true ((n - u) / s) x h in
      let low : x * s ≤ n - u = subst (λ q. q * s ≤ n - u) is (quotient_low (n - u) s) in
      let high : n - u < x * s + s = subst (λ q. n - u < q * s + s) is (quotient_high (n - u) s large) in
      eq-eqb (n / s) x (quotient_is n s x large (omega (arith, low, one)) (inside high))

  pub block : (n / s == x) ≡ ((n - u) / s == x)
  block = same_tests (n / s == x) ((n - u) / s == x) there back

-- a multiple is its quotient times the divisor
pub multiple : (n u : ℕ) → n % u ≡ 0 → n ≡ n / u * u
multiple n u clean = (let parts = div-add-mod' n u in omega (arith, parts, clean))

-- one that isn't 0 is no less than the divisor
pub at_least : (n u : ℕ) → n % u ≡ 0 → (n ≡ 0 → ⊥) → u ≤ n
at_least n u clean some = elim (cases_lt n u) [
  | inl less ↦ absurd (some (sym (mod-eq_of_lt less) ∙ clean))
  | inr other ↦ other
]

-- and the one below it is one, too
pub still_clean : (n u : ℕ) → 0 < u → n % u ≡ 0 → u ≤ n → (n - u) % u ≡ 0
still_clean n u some clean large = elim (cases_lt 0 ((n - u) % u)) [
  | inr none ↦ omega (arith, none)
  | inl rest ↦
      let is = multiple n u clean in
      let parts = div-add-mod' (n - u) u in
      let less = mod-lt (n - u) some in
      let a = (n - u) / u in
      let past : suc a * u < n / u * u = omega (arith, is, parts, rest, large) in
      let gap = multiples (suc a) (n / u) u past in
      absurd (omega (arith, gap, is, parts, less, large))
]

-- the prefix of the same length before it
abbrev pub below : PlainPrefix → PlainPrefix
below q = record { bits = q.bits - 2 ^ (32 - q.len); len = q.len }

pub below_prefix : (q : PlainPrefix) → IsPrefix q → 2 ^ (32 - q.len) ≤ q.bits → IsPrefix (below q)
below_prefix q rules large = record {
  wide = (let top = rules.wide in omega (arith, top));
  within = rules.within;
  clean = still_clean q.bits (2 ^ (32 - q.len)) (pow_pos (32 - q.len)) rules.clean large;
}

-- a pattern contains both unless it begins or ends at the greater one
pub contains-below : (t : PlainPattern) (q : PlainPrefix) → IsPattern t → IsPrefix q → 2 ^ (32 - q.len) ≤ q.bits → (t.base.bits ≡ q.bits → ⊥)
    → (t.base.bits + 2 ^ (32 - t.base.len) ≡ q.bits → ⊥) → contains t q ≡ contains t (below q)
contains-below t q pattern rules large begins ends = elim (cases_Bool (nat_le t.base.len q.len)) [
  | inr outside ↦
      ap (λ b. (b && (q.bits / 2 ^ (32 - t.base.len) == t.base.bits / 2 ^ (32 - t.base.len))) && nat_le q.len t.upto) outside
      ∙ sym (ap (λ b. (b && ((q.bits - 2 ^ (32 - q.len)) / 2 ^ (32 - t.base.len) == t.base.bits / 2 ^ (32 - t.base.len))) && nat_le q.len t.upto) outside)
  | inl inside ↦
      let short = leb-true t.base.len q.len inside in
      let u = 2 ^ (32 - q.len) in
      let s = 2 ^ (32 - t.base.len) in
      let k = 2 ^ (q.len - t.base.len) in
      let within = rules.within in
      let sum : 32 - t.base.len ≡ (q.len - t.base.len) + (32 - q.len) = omega (arith, short, within) in
      let whole : s ≡ k * u = ap (λ e. 2 ^ e) sum ∙ pow-add 2 (q.len - t.base.len) (32 - q.len) in
      let base : t.base.bits ≡ t.base.bits / s * s = multiple t.base.bits s pattern.prefix.clean in
      let same = block u k s (t.base.bits / s) (q.bits / u) q.bits (pow_pos (32 - q.len)) (pow_pos (32 - t.base.len)) whole (multiple q.bits u rules.clean) large
      (λ e. begins (base ∙ sym e)) (λ e. ends (ap (λ b. b + s) base ∙ sym e)) in
      ap (λ b. (nat_le t.base.len q.len && b) && nat_le q.len t.upto) same
]
