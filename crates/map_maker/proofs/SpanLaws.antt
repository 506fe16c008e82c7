-- Of the patterns of a length, those in a pattern's span are those that overlap it.
use Rattle.std.proofs.Common.{◌≡◌, ℕ, ◌+◌, ◌-◌, ◌*◌, ◌/◌, ◌%◌, ◌^◌, ◌<◌, ◌≤◌, Bool, true, false, inl, inr, refl, ap, sym, ◌∙◌, arith}
use Rattle.std.specs.Prelude.{◌⊎◌, ◌&&◌, ◌==◌, nat_le, nat_lt}
use Rattle.std.proofs.lemmas.Bool.{leb-true, le-leb, lt-leb, ltb-true, lt-ltb, le-ltb, eqb-true, eq-eqb, and_parts, and_from, or_cases, or_left, or_right, cases_lt}
use Rattle.std.proofs.lemmas.Nat.{shr_split, shr_high, mod_below, pow_pos, pow-add, div_below, mul-le}
use Rattle.std.proofs.Math.Bool.{and-true, and-false}
use Rattle.list_law.proofs.Truth.{same_tests}
use Rattle.net_base.specs.Prefixes.{PlainPattern, IsPattern, contains}
use Rattle.route_maps.specs.Overlaps.{overlap}
use Rattle.route_maps.proofs.OverlapLaws.{Contains, contains_parts, contains_whole}
use Rattle.map_maker.specs.Keys.{key, in_span, above, inside, span_at}

whole : (b k : ℕ) → b % 2 ^ k ≡ 0 → b / 2 ^ k * 2 ^ k ≡ b
whole b k clean = omega (arith, shr_split b k, clean)

-- what lies in a block has its first bits
in_block : (x b k : ℕ) → b % 2 ^ k ≡ 0 → b ≤ x → x < b + 2 ^ k → x / 2 ^ k ≡ b / 2 ^ k
in_block x b k clean low high =
    let e : b / 2 ^ k * 2 ^ k + (x - b) ≡ x = omega (arith, whole b k clean, low) in
    let short : x - b < 2 ^ k = omega (arith, low, high) in
    ap (λ n. n / 2 ^ k) (sym e) ∙ shr_high (b / 2 ^ k) k (x - b) short

-- what has the first bits of a block lies in it
from_block : (x b k : ℕ) → b % 2 ^ k ≡ 0 → x / 2 ^ k ≡ b / 2 ^ k → (b ≤ x) × (x < b + 2 ^ k)
from_block x b k clean same =
    let e : x / 2 ^ k * 2 ^ k + x % 2 ^ k ≡ x = shr_split x k in
    let f : x / 2 ^ k * 2 ^ k ≡ b = ap (λ n. n * 2 ^ k) same ∙ whole b k clean in
    let low : x % 2 ^ k < 2 ^ k = mod_below x (2 ^ k) (pow_pos k) in
    (omega (arith, e, f), omega (arith, e, f, low))

-- a block of addresses ends with the addresses
pub block_ends : (b len : ℕ) → len ≤ 32 → b < 2 ^ 32 → b % 2 ^ (32 - len) ≡ 0 → b + 2 ^ (32 - len) ≤ 2 ^ 32
block_ends b len within wide clean =
    let k : ℕ = 32 - len in
    let cut : 2 ^ len * 2 ^ k ≡ 2 ^ 32 = sym (pow-add 2 len k) ∙ ap (λ n. 2 ^ n) (let e : len + (32 - len) ≡ 32 = omega (arith, within) in e) in
    let low : b / 2 ^ k < 2 ^ len = div_below b (2 ^ k) (2 ^ len) (pow_pos k) (omega (arith, cut, wide)) in
    let le : (b / 2 ^ k + 1) * 2 ^ k ≤ 2 ^ len * 2 ^ k = mul-le (b / 2 ^ k + 1) (2 ^ k) (2 ^ len) (2 ^ k) (omega (arith, low)) (omega arith) in
    let d : (b / 2 ^ k + 1) * 2 ^ k ≡ b / 2 ^ k * 2 ^ k + 2 ^ k = grind arith in
    omega (arith, le, d, cut, whole b k clean)

pub cut_low : (b k : ℕ) → b / 2 ^ k * 2 ^ k ≤ b
cut_low b k = omega (arith, shr_split b k)

module _ (p q : PlainPattern) (lp : IsPattern p) (lq : IsPattern q) where
  -- shorter, or as long
  above_overlap : q.base.len ≤ p.base.len → overlap q p ≡ (q.base.bits == p.base.bits / 2 ^ (32 - q.base.len) * 2 ^ (32 - q.base.len) && nat_le p.base.len q.upto)
  above_overlap le = same_tests (overlap q p) _ to from
    where
      k : ℕ
      k = 32 - q.base.len

      by : Contains q p.base → (q.base.bits == p.base.bits / 2 ^ k * 2 ^ k && nat_le p.base.len q.upto) ≡ true
      by c =
          let at : q.base.bits ≡ p.base.bits / 2 ^ k * 2 ^ k = sym (whole q.base.bits k lq.prefix.clean) ∙ ap (λ n. n * 2 ^ k) (sym c.agree) in
          and_from _ _ (eq-eqb _ _ at) (le-leb _ _ c.most)

      turned : Contains p q.base → Contains q p.base
      turned c =
          let same : p.base.len ≡ q.base.len = omega (arith, le, c.least) in
          let agree : q.base.bits / 2 ^ (32 - p.base.len) ≡ p.base.bits / 2 ^ (32 - p.base.len) = c.agree in
          record { least = le; agree = sym (ap (λ n. q.base.bits / 2 ^ (32 - n)) (sym same) ∙ agree ∙ ap (λ n. p.base.bits / 2 ^ (32 - n)) same); most = omega (arith, same, lq.least) }

      to : overlap q p ≡ true → (q.base.bits == p.base.bits / 2 ^ k * 2 ^ k && nat_le p.base.len q.upto) ≡ true
      to h = elim (or_cases (contains q p.base) (contains p q.base) h) [
        | inl t ↦ by (contains_parts q p.base t)
        | inr t ↦ by (turned (contains_parts p q.base t))
      ]

      from : (q.base.bits == p.base.bits / 2 ^ k * 2 ^ k && nat_le p.base.len q.upto) ≡ true → overlap q p ≡ true
      from h =
          let both = and_parts (q.base.bits == p.base.bits / 2 ^ k * 2 ^ k) (nat_le p.base.len q.upto) h in
          let at : q.base.bits ≡ p.base.bits / 2 ^ k * 2 ^ k = eqb-true _ _ both.0 in
          let e : p.base.bits / 2 ^ k * 2 ^ k + p.base.bits % 2 ^ k ≡ p.base.bits = shr_split p.base.bits k in
          let low : p.base.bits % 2 ^ k < 2 ^ k = mod_below p.base.bits (2 ^ k) (pow_pos k) in
          let agree : p.base.bits / 2 ^ k ≡ q.base.bits / 2 ^ k = in_block p.base.bits q.base.bits k lq.prefix.clean (omega (arith, at, e)) (omega (arith, at, e, low)) in
          or_left (contains q p.base) _ (contains_whole q p.base (record { least = le; agree = agree; most = leb-true _ _ both.1 }))

  -- longer
  inside_overlap : p.base.len < q.base.len → overlap q p ≡ ((nat_le p.base.bits q.base.bits && nat_lt q.base.bits (p.base.bits + 2 ^ (32 - p.base.len))) && nat_le q.base.len p.upto)
  inside_overlap lt = same_tests (overlap q p) _ to from
    where
      k : ℕ
      k = 32 - p.base.len

      by : Contains p q.base → ((nat_le p.base.bits q.base.bits && nat_lt q.base.bits (p.base.bits + 2 ^ k)) && nat_le q.base.len p.upto) ≡ true
      by c =
          let at = from_block q.base.bits p.base.bits k lp.prefix.clean c.agree in
          and_from _ _ (and_from _ _ (le-leb _ _ at.0) (lt-ltb _ _ at.1)) (le-leb _ _ c.most)

      to : overlap q p ≡ true → ((nat_le p.base.bits q.base.bits && nat_lt q.base.bits (p.base.bits + 2 ^ k)) && nat_le q.base.len p.upto) ≡ true
      to h = elim (or_cases (contains q p.base) (contains p q.base) h) [
        | inl t ↦ absurd (let c = contains_parts q p.base t in omega (arith, c.least, lt))
        | inr t ↦ by (contains_parts p q.base t)
      ]

      from : ((nat_le p.base.bits q.base.bits && nat_lt q.base.bits (p.base.bits + 2 ^ k)) && nat_le q.base.len p.upto) ≡ true → overlap q p ≡ true
      from h =
          let both = and_parts (nat_le p.base.bits q.base.bits && nat_lt q.base.bits (p.base.bits + 2 ^ k)) (nat_le q.base.len p.upto) h in
          let ends = and_parts (nat_le p.base.bits q.base.bits) (nat_lt q.base.bits (p.base.bits + 2 ^ k)) both.0 in
          let agree : q.base.bits / 2 ^ k ≡ p.base.bits / 2 ^ k = in_block q.base.bits p.base.bits k lp.prefix.clean (leb-true _ _ ends.0) (ltb-true _ _ ends.1) in
          or_right (contains q p.base) _ (contains_whole p q.base (record { least = omega (arith, lt); agree = agree; most = leb-true _ _ both.1 }))

  -- ---- keys

  above_key : (len : ℕ) → len ≤ 32 → in_span (above p len) (key q) ≡ (len == q.base.len && (q.base.bits == p.base.bits / 2 ^ (32 - len) * 2 ^ (32 - len) && nat_le p.base.len q.upto))
  above_key len within = same_tests (in_span (above p len) (key q)) (len == q.base.len && (q.base.bits == p.base.bits / 2 ^ (32 - len) * 2 ^ (32 - len) && nat_le p.base.len q.upto)) to from
    where
      cut : ℕ
      cut = p.base.bits / 2 ^ (32 - len) * 2 ^ (32 - len)

      low : cut < 2 ^ 32
      low = omega (arith, cut_low p.base.bits (32 - len), lp.prefix.wide)

      to : in_span (above p len) (key q) ≡ true → (len == q.base.len && (q.base.bits == cut && nat_le p.base.len q.upto)) ≡ true
      to h =
          let both = and_parts (nat_le ((len * 2 ^ 32 + cut) * 64 + p.base.len) (key q)) (nat_lt (key q) ((len * 2 ^ 32 + cut) * 64 + 64)) h in
          let a : (len * 2 ^ 32 + cut) * 64 + p.base.len ≤ (q.base.len * 2 ^ 32 + q.base.bits) * 64 + q.upto = leb-true _ _ both.0 in
          let b : (q.base.len * 2 ^ 32 + q.base.bits) * 64 + q.upto < (len * 2 ^ 32 + cut) * 64 + 64 = ltb-true _ _ both.1 in
          let l : len ≡ q.base.len = omega (arith, a, b, low, lq.prefix.wide, lq.most, lp.prefix.within) in
          let c : q.base.bits ≡ cut = omega (arith, a, b, l, lq.most) in
          let d : p.base.len ≤ q.upto = omega (arith, a, c, l) in
          and_from _ _ (eq-eqb _ _ l) (and_from _ _ (eq-eqb _ _ c) (le-leb _ _ d))

      from : (len == q.base.len && (q.base.bits == cut && nat_le p.base.len q.upto)) ≡ true → in_span (above p len) (key q) ≡ true
      from h =
          let both = and_parts (len == q.base.len) (q.base.bits == cut && nat_le p.base.len q.upto) h in
          let more = and_parts (q.base.bits == cut) (nat_le p.base.len q.upto) both.1 in
          let l : len ≡ q.base.len = eqb-true _ _ both.0 in
          let c : q.base.bits ≡ cut = eqb-true _ _ more.0 in
          let d : p.base.len ≤ q.upto = leb-true _ _ more.1 in
          let low_end : (len * 2 ^ 32 + cut) * 64 + p.base.len ≤ key q = omega (arith, l, c, d) in
          let high_end : key q < (len * 2 ^ 32 + cut) * 64 + 64 = omega (arith, l, c, lq.most) in
          and_from _ _ (le-leb _ _ low_end) (lt-ltb _ _ high_end)

  inside_key : (len : ℕ) → in_span (inside p len) (key q) ≡ (len == q.base.len && (nat_le p.base.bits q.base.bits && nat_lt q.base.bits (p.base.bits + 2 ^ (32 - p.base.len))))
  inside_key len = same_tests (in_span (inside p len) (key q)) (len == q.base.len && (nat_le p.base.bits q.base.bits && nat_lt q.base.bits (p.base.bits + 2 ^ (32 - p.base.len)))) to from
    where
      size : ℕ
      size = 2 ^ (32 - p.base.len)

      ends : p.base.bits + size ≤ 2 ^ 32
      ends = block_ends p.base.bits p.base.len lp.prefix.within lp.prefix.wide lp.prefix.clean

      to : in_span (inside p len) (key q) ≡ true → (len == q.base.len && (nat_le p.base.bits q.base.bits && nat_lt q.base.bits (p.base.bits + size))) ≡ true
      to h =
          let both = and_parts (nat_le ((len * 2 ^ 32 + p.base.bits) * 64) (key q)) (nat_lt (key q) ((len * 2 ^ 32 + p.base.bits + size) * 64)) h in
          let a : (len * 2 ^ 32 + p.base.bits) * 64 ≤ (q.base.len * 2 ^ 32 + q.base.bits) * 64 + q.upto = leb-true _ _ both.0 in
          let b : (q.base.len * 2 ^ 32 + q.base.bits) * 64 + q.upto < (len * 2 ^ 32 + p.base.bits + size) * 64 = ltb-true _ _ both.1 in
          let l : len ≡ q.base.len = omega (arith, a, b, ends, lq.prefix.wide, lq.most) in
          let c : p.base.bits ≤ q.base.bits = omega (arith, a, l, lq.most) in
          let d : q.base.bits < p.base.bits + size = omega (arith, b, l) in
          and_from _ _ (eq-eqb _ _ l) (and_from _ _ (le-leb _ _ c) (lt-ltb _ _ d))

      from : (len == q.base.len && (nat_le p.base.bits q.base.bits && nat_lt q.base.bits (p.base.bits + size))) ≡ true → in_span (inside p len) (key q) ≡ true
      from h =
          let both = and_parts (len == q.base.len) (nat_le p.base.bits q.base.bits && nat_lt q.base.bits (p.base.bits + size)) h in
          let more = and_parts (nat_le p.base.bits q.base.bits) (nat_lt q.base.bits (p.base.bits + size)) both.1 in
          let l : len ≡ q.base.len = eqb-true _ _ both.0 in
          let c : p.base.bits ≤ q.base.bits = leb-true _ _ more.0 in
          let d : q.base.bits < p.base.bits + size = ltb-true _ _ more.1 in
          let low_end : (len * 2 ^ 32 + p.base.bits) * 64 ≤ key q = omega (arith, l, c) in
          let high_end : key q < (len * 2 ^ 32 + p.base.bits + size) * 64 = omega (arith, l, d, lq.most) in
          and_from _ _ (le-leb _ _ low_end) (lt-ltb _ _ high_end)

  -- the span of a length has the keys of the patterns of that length that overlap
  pub span_key : (len : ℕ) → len ≤ 32 → in_span (span_at p len) (key q) ≡ (len == q.base.len && overlap q p)
  span_key len within = by_length (cases_lt p.base.len len)
    where
      at_length : (x y : Bool) → (len ≡ q.base.len → x ≡ y) → (len == q.base.len && x) ≡ (len == q.base.len && y)
      at_length x y h = by (len == q.base.len) refl
        where
          by : (b : Bool) → (len == q.base.len) ≡ b → (b && x) ≡ (b && y)
          by true e = h (eqb-true len q.base.len e)
          by false e = refl

      short : len ≤ p.base.len → in_span (above p len) (key q) ≡ (len == q.base.len && overlap q p)
      short le =
          above_key len within
          ∙ at_length _ _ (λ (same : len ≡ q.base.len).
          ap (λ n. q.base.bits == p.base.bits / 2 ^ (32 - n) * 2 ^ (32 - n) && nat_le p.base.len q.upto) same ∙ sym (above_overlap (omega (arith, le, same))))

      long : p.base.len < len → len ≤ p.upto → in_span (inside p len) (key q) ≡ (len == q.base.len && overlap q p)
      long lt le =
          inside_key len
          ∙ at_length _ _ (λ (same : len ≡ q.base.len).
          sym (inside_overlap (omega (arith, lt, same)) ∙ (let on : nat_le q.base.len p.upto ≡ true = le-leb _ _ (omega (arith, le, same)) in rw on (and-true _))))

      past : p.base.len < len → p.upto < len → false ≡ (len == q.base.len && overlap q p)
      past lt gt =
          sym (at_length (overlap q p) false (λ (same : len ≡ q.base.len).
          inside_overlap (omega (arith, lt, same)) ∙ (let off : nat_le q.base.len p.upto ≡ false = lt-leb _ _ (omega (arith, gt, same)) in rw off (and-false _))) ∙ and-false (len == q.base.len))

      empty : (k : ℕ) → in_span (record { from = 0; to = 0 }) k ≡ false
      empty k = rw (le-ltb k 0 (omega arith)) (and-false (nat_le 0 k))

      by_end : p.base.len < len → (p.upto < len) ⊎ (len ≤ p.upto) → in_span (span_at p len) (key q) ≡ (len == q.base.len && overlap q p)
      by_end lt (inl gt) = rw (lt-leb len p.base.len lt, lt-leb len p.upto gt) (empty (key q) ∙ past lt gt)
      by_end lt (inr le) = rw (lt-leb len p.base.len lt, le-leb len p.upto le) (long lt le)

      by_length : (p.base.len < len) ⊎ (len ≤ p.base.len) → in_span (span_at p len) (key q) ≡ (len == q.base.len && overlap q p)
      by_length (inl lt) = by_end lt (cases_lt p.upto len)
      by_length (inr le) = rw (le-leb len p.base.len le) (short le)
