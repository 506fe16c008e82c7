-- The first pattern that contains a prefix stands at the least place under the prefix's first bits.
use Rattle.std.proofs.Common.{◌≡◌, ℕ, zero, suc, ◌+◌, ◌-◌, ◌/◌, ◌^◌, ◌<◌, ◌≤◌, Bool, true, false, List, [], ◌∷◌, length, set, refl, sym, ap, subst, ◌∙◌, arith, inl, inr, Option, Some, None}
use Rattle.std.specs.Prelude.{◌&&◌, ◌||◌, ◌==◌, nat_le, nat_lt, slice_get, if◌then◌else◌}
use Rattle.std.proofs.lemmas.Bool.{and_parts, cases_Bool, true≢false, le-leb, le-ltb, leb-true, eqb-true, eq-eqb, lt-leb}
use Rattle.std.proofs.lemmas.Option.{same_Some}
use Rattle.std.proofs.Math.Bool.{and-true, and-false, and-or_distrib_left}
use Rattle.list_law.proofs.Truth.{if_same}
use Rattle.list_law.proofs.Numbers.{nat_lt_more, eqb_comm}
use Rattle.net_base.specs.Prefixes.{PlainPrefix, PlainPattern, contains}
use Rattle.first_patterns.specs.declared.firsts.Stated.{Stated}
use Rattle.first_patterns.specs.declared.table.Head.{Head}
use Rattle.first_patterns.specs.Firsts.{first_place}
use Rattle.first_patterns.specs.Tables.{AreLengths, has_head, head_of, least_place, lesser, same_head}

-- a number that is k, or a later one, or missing
data IsFrom (k : ℕ) : Option ℕ → Type 0 where
  missing : IsFrom k None
  there : (j : ℕ) → k ≤ j → IsFrom k (Some j)

later : {k : ℕ} {o : Option ℕ} → IsFrom (k + 1) o → IsFrom k o
later missing = missing
later (there j h) = there j (omega arith)

is_from : (p : PlainPattern → Bool) (ts : List Stated) (k : ℕ) → IsFrom k (first_place p ts k)
is_from p [] k = missing
is_from p (t ∷ ts) k = elim (cases_Bool (p t.pattern)) [
  | inl met ↦ subst (λ b. IsFrom k (if b then Some k else first_place p ts (k + 1))) (sym met) (there k (omega arith))
  | inr missed ↦ subst (λ b. IsFrom k (if b then Some k else first_place p ts (k + 1))) (sym missed) (later (is_from p ts (k + 1)))
]

lesser-same : (k : ℕ) → Some k ≡ lesser (Some k) (Some k)
lesser-same k = ap (λ n. Some n) (sym (if_same (nat_le k k) k))

lesser-first : (k : ℕ) (o : Option ℕ) → IsFrom (k + 1) o → Some k ≡ lesser (Some k) o
lesser-first k None _ = refl
lesser-first k (Some j) (there _ h) = ap (λ b. Some (if b then k else j)) (sym (le-leb k j (omega arith)))

lesser-second : (k : ℕ) (o : Option ℕ) → IsFrom (k + 1) o → Some k ≡ lesser o (Some k)
lesser-second k None _ = refl
lesser-second k (Some j) (there _ h) = ap (λ b. Some (if b then j else k)) (sym (lt-leb j k (omega arith)))

-- the first of two tests, where none of the later numbers is k
lesser-step : (a b : Bool) (k : ℕ) (x y : Option ℕ) → IsFrom (k + 1) x → IsFrom (k + 1) y
    → (if a || b then Some k else lesser x y) ≡ lesser (if a then Some k else x) (if b then Some k else y)
lesser-step true true k x y hx hy = lesser-same k
lesser-step true false k x y hx hy = lesser-first k y hy
lesser-step false true k x y hx hy = lesser-second k x hx
lesser-step false false k x y hx hy = refl

first_place-or : (p q : PlainPattern → Bool) (ts : List Stated) (k : ℕ) → first_place (λ t. p t || q t) ts k ≡ lesser (first_place p ts k) (first_place q ts k)
first_place-or p q [] k = refl
first_place-or p q (t ∷ ts) k =
    ap (λ o. if p t.pattern || q t.pattern then Some k else o) (first_place-or p q ts (k + 1))
    ∙ lesser-step (p t.pattern) (q t.pattern) k (first_place p ts (k + 1)) (first_place q ts (k + 1)) (is_from p ts (k + 1)) (is_from q ts (k + 1))

first_place-alike : (p q : PlainPattern → Bool) → ((t : PlainPattern) → p t ≡ q t) → (ts : List Stated) (k : ℕ) → first_place p ts k ≡ first_place q ts k
first_place-alike p q same [] k = refl
first_place-alike p q same (t ∷ ts) k =
    ap (λ b. if b then Some k else first_place p ts (k + 1)) (same t.pattern) ∙ ap (λ o. if q t.pattern then Some k else o) (first_place-alike p q same ts (k + 1))

first_place-none : (ts : List Stated) (k : ℕ) → first_place (λ _. false) ts k ≡ None
first_place-none [] k = refl
first_place-none (t ∷ ts) k = first_place-none ts (k + 1)

-- a pattern with a base of less than k bits contains the prefix
contains_below : ℕ → PlainPrefix → PlainPattern → Bool
contains_below k p t = contains t p && nat_lt t.base.len k

-- the same tests in another order
in_order : (a b c s : Bool) → ((a && b) && c) && s ≡ ((b && (s && true)) && (a && c))
in_order true true true true = refl
in_order true true true false = refl
in_order true true false true = refl
in_order true true false false = refl
in_order true false c s = refl
in_order false true c true = refl
in_order false true c false = refl
in_order false false c s = refl

at_head : (p : PlainPrefix) (k : ℕ) (t : PlainPattern) → contains t p && (t.base.len == k) ≡ has_head (head_of p k) t
at_head p k t = elim (cases_Bool (t.base.len == k)) [
  | inl same ↦
      let e : t.base.len ≡ k = eqb-true t.base.len k same in
      in_order (nat_le t.base.len p.len) (p.bits / 2 ^ (32 - t.base.len) == t.base.bits / 2 ^ (32 - t.base.len)) (nat_le p.len t.upto) (t.base.len == k)
      ∙ ap (λ b. (b && ((t.base.len == k) && true)) && (nat_le t.base.len p.len && nat_le p.len t.upto))
      (eqb_comm (p.bits / 2 ^ (32 - t.base.len)) (t.base.bits / 2 ^ (32 - t.base.len)) ∙ ap (λ l. t.base.bits / 2 ^ (32 - t.base.len) == p.bits / 2 ^ (32 - l)) e)
      ∙ ap (λ b. ((t.base.bits / 2 ^ (32 - t.base.len) == p.bits / 2 ^ (32 - k)) && ((t.base.len == k) && b)) && (nat_le t.base.len p.len && nat_le p.len t.upto)) (sym (eq-eqb p.len p.len refl))
  | inr other ↦
      ap (λ b. contains t p && b) other ∙ and-false (contains t p)
      ∙ sym (ap (λ b. ((t.base.bits / 2 ^ (32 - t.base.len) == p.bits / 2 ^ (32 - k)) && (b && (p.len == p.len))) && (nat_le t.base.len p.len && nat_le p.len t.upto)) other
      ∙ ap (λ b. b && (nat_le t.base.len p.len && nat_le p.len t.upto)) (and-false (t.base.bits / 2 ^ (32 - t.base.len) == p.bits / 2 ^ (32 - k))))
]

contains_below-next : (k : ℕ) (p : PlainPrefix) (t : PlainPattern) → (contains_below k p t || has_head (head_of p k) t) ≡ contains_below (suc k) p t
unfolding contains_below
contains_below-next k p t =
    ap (λ b. (contains t p && nat_lt t.base.len k) || b) (sym (at_head p k t))
    ∙ sym (and-or_distrib_left (contains t p) (nat_lt t.base.len k) (t.base.len == k))
    ∙ ap (λ b. contains t p && b) (nat_lt_more t.base.len k)

contains_below-none : (p : PlainPrefix) (t : PlainPattern) → contains_below zero p t ≡ false
unfolding contains_below
contains_below-none p t = ap (λ b. contains t p && b) (le-ltb t.base.len zero (omega arith)) ∙ and-false (contains t p)

contains_below-all : (p : PlainPrefix) (t : PlainPattern) → contains_below (p.len + 1) p t ≡ contains t p
unfolding contains_below
contains_below-all p t = elim (cases_Bool (nat_le t.base.len p.len)) [
  | inl met ↦ ap (λ b. contains t p && b) (le-leb (suc t.base.len) (p.len + 1) (omega (arith, leb-true t.base.len p.len met))) ∙ and-true (contains t p)
  | inr missed ↦
      let none : contains t p ≡ false = ap (λ b. (b && (p.bits / 2 ^ (32 - t.base.len) == t.base.bits / 2 ^ (32 - t.base.len))) && nat_le p.len t.upto) missed in
      ap (λ b. b && nat_lt t.base.len (p.len + 1)) none ∙ sym none
]

-- the least place under fewer first bits is that of the first pattern with such a base that contains the prefix
least_place-shorter : (places : Head → Option ℕ) (ts : List Stated) (p : PlainPrefix) → ((h : Head) → places h ≡ first_place (has_head h) ts 1) → (k : ℕ)
    → least_place places p k ≡ first_place (contains_below k p) ts 1
least_place-shorter places ts p noted zero = sym (first_place-alike (contains_below zero p) (λ _. false) (contains_below-none p) ts 1 ∙ first_place-none ts 1)
least_place-shorter places ts p noted (suc k) =
    ap (λ o. lesser o (places (head_of p k))) (least_place-shorter places ts p noted k) ∙ ap (λ o. lesser (first_place (contains_below k p) ts 1) o) (noted (head_of p k))
    ∙ sym (first_place-or (contains_below k p) (has_head (head_of p k)) ts 1)
    ∙ first_place-alike (λ t. contains_below k p t || has_head (head_of p k) t) (contains_below (suc k) p) (contains_below-next k p) ts 1

-- and under all of them that of the first pattern that contains the prefix
pub least_place-first : (places : Head → Option ℕ) (ts : List Stated) (p : PlainPrefix) → ((h : Head) → places h ≡ first_place (has_head h) ts 1)
    → least_place places p (p.len + 1) ≡ first_place (λ t. contains t p) ts 1
least_place-first places ts p noted =
    least_place-shorter places ts p noted (p.len + 1) ∙ first_place-alike (contains_below (p.len + 1) p) (λ t. contains t p) (contains_below-all p) ts 1

-- the pattern's base has these bits, and the pattern may contain prefixes of that length, which is below n
abbrev pub has_head_below : ℕ → Head → PlainPattern → Bool
has_head_below n h t = same_head (record { bits = t.base.bits / 2 ^ (32 - t.base.len); len = t.base.len; of = h.of }) h && (nat_le t.base.len h.of && nat_lt h.of n)

-- ---- lengths

-- no pattern has first bits of a length that isn't marked
pub unmarked_head : (ts : List Stated) (lengths : List Bool) → AreLengths ts lengths → (h : Head) → slice_get lengths h.len ≡ Some false → (k : ℕ) → first_place (has_head h) ts k ≡ None
unmarked_head [] lengths are h off k = refl
unmarked_head (t ∷ ts) lengths are h off k = elim (cases_Bool (has_head h t.pattern)) [
  | inl met ↦
      let same : t.pattern.base.len ≡ h.len = len_of (record { bits = t.pattern.base.bits / 2 ^ (32 - t.pattern.base.len); len = t.pattern.base.len; of = h.of }) h (and_parts _ _ met).0 in
      absurd (true≢false (same_Some true false (sym (are 0 t refl) ∙ ap (slice_get lengths) same ∙ off)))
  | inr missed ↦ ap (λ b. if b then Some k else first_place (has_head h) ts (k + 1)) missed ∙ unmarked_head ts lengths (λ i u at. are (suc i) u at) h off (k + 1)
]
  where
    len_of : (f g : Head) → same_head f g ≡ true → f.len ≡ g.len
    len_of f g same = eqb-true f.len g.len (and_parts (f.len == g.len) (f.of == g.of) (and_parts (f.bits == g.bits) (f.len == g.len && f.of == g.of) same).1).0

pub lesser-missing : (o : Option ℕ) (p : Option ℕ) → p ≡ None → o ≡ lesser o p
lesser-missing None p none = sym none
lesser-missing (Some a) p none = ap (lesser (Some a)) (sym none)

-- a length is marked, and those marked before stay so
pub marked_there : (ls : List Bool) (n : ℕ) → n < length ls → slice_get (set ls n true) n ≡ Some true
marked_there [] n within = absurd (omega (arith, within))
marked_there (l ∷ ls) zero within = refl
marked_there (l ∷ ls) (suc n) within = marked_there ls n (omega (arith, within))

pub still_marked : (ls : List Bool) (n k : ℕ) → slice_get ls k ≡ Some true → slice_get (set ls n true) k ≡ Some true
still_marked [] n k at = absurd cc
still_marked (l ∷ ls) zero zero at = refl
still_marked (l ∷ ls) zero (suc k) at = at
still_marked (l ∷ ls) (suc n) zero at = at
still_marked (l ∷ ls) (suc n) (suc k) at = still_marked ls n k at
