-- A prefix is read from its text.
use Rattle.std.proofs.Common.{◌≡◌, ℕ, suc, ◌+◌, ◌-◌, ◌/◌, ◌%◌, ◌^◌, ◌<◌, ◌≤◌, List, [], ◌∷◌, ◌++◌, length, drop, Bool, true, false, Some, Ok, refl, sym, ap, ap₂, ◌∙◌}
use Rattle.std.proofs.Common.{arith, append_assoc, length-append}
use Rattle.std.proofs.Math.Seq.{take-append_seam}
use Rattle.std.specs.Prelude.{◌&&◌, ◌==◌, not}
use Rattle.std.specs.List.{list_all, prefix_len, position_or_len}
use Rattle.std.specs.Fmt.{decimal}
use Rattle.std.proofs.lemmas.Bool.{and_parts, eq-eqb, false≢true, ne_eqb, le-leb}
use Rattle.std.proofs.lemmas.Fmt.{length-decimal-le}
use Rattle.std.proofs.lemmas.List.Folds.{list_all-append}
use Rattle.net_base.specs.Addresses.{is_figure, cut_at, number_and_rest, quad_of, are_octets, bits_of, address_of}
use Rattle.net_base.specs.Prefixes.{PlainPrefix, IsPrefix}
use Rattle.net_base.specs.PrefixText.{length_number, prefix_spelled}
use Rattle.list_law.proofs.Texts.{all_pass}
use Rattle.text_parts.specs.Texts.{address_text, prefix_text}
use Rattle.text_parts.proofs.Numbers.{small_number-decimal, list_all-is_figure}

-- no byte of these is the other
abbrev pub have_no : ℕ → List ℕ → Bool
have_no sign bs = list_all (λ b. not (b == sign)) bs

drop_past : (a b : List ℕ) (sign : ℕ) → drop (length a + 1) (a ++ sign ∷ b) ≡ b
drop_past [] b sign = refl
drop_past (x ∷ a) b sign = let next : length (x ∷ a) + 1 ≡ suc (length a + 1) = omega arith in rw next (drop_past a b sign)

pub cut_at-there : (sign : ℕ) (a b : List ℕ) → have_no sign a ≡ true → cut_at sign (a ++ sign ∷ b) ≡ Some (a, b)
cut_at-there sign a b none =
    let stop : prefix_len (λ x. not (x == sign)) (sign ∷ b) ≡ 0 = rw (eq-eqb sign sign refl) refl in
    let place : position_or_len (λ x. x == sign) (a ++ sign ∷ b) ≡ length a = all_pass (λ x. not (x == sign)) a (sign ∷ b) none stop in
    rw (place, ne_eqb (length a) (length (a ++ sign ∷ b)) (λ e. omega (arith, e, length-append a (sign ∷ b))), take-append_seam a (sign ∷ b), drop_past a b sign) refl

-- digits have no byte that is no digit
pub digits_only : (sign : ℕ) → is_figure sign ≡ false → (ds : List ℕ) → list_all is_figure ds ≡ true → have_no sign ds ≡ true
digits_only sign other [] all = refl
digits_only sign other (d ∷ ds) all =
    let h = and_parts (is_figure d) (list_all is_figure ds) all in
    rw (ne_eqb d sign (λ e. false≢true (sym other ∙ ap is_figure (sym e) ∙ h.0)), digits_only sign other ds h.1) refl

number_has_no : (sign n : ℕ) → is_figure sign ≡ false → n < 256 → have_no sign (decimal n) ≡ true
number_has_no sign n other small = digits_only sign other (decimal n) (list_all-is_figure n small)

-- a number, then a dot
number_there : (n : ℕ) (rest : List ℕ) → n < 256 → number_and_rest (decimal n ++ 46 ∷ rest) ≡ Some (n, rest)
number_there n rest small = rw (cut_at-there 46 (decimal n) rest (number_has_no 46 n refl small), small_number-decimal n small) refl

-- a length is read from its text
pub length_number-decimal : (n : ℕ) → n ≤ 32 → length_number (decimal n) ≡ Some n
length_number-decimal n short =
    let width : length (decimal n) ≤ 2 = length-decimal-le 2 n (omega arith) (omega (arith, short)) (omega (arith, short)) in
    rw (le-leb (length (decimal n)) 2 width) (small_number-decimal n (omega (arith, short)))

module _ (a b c d : ℕ) (sa : a < 256) (sb : b < 256) (sc : c < 256) (sd : d < 256) where
  abbrev dotted : List ℕ
  dotted = decimal a ++ 46 ∷ (decimal b ++ 46 ∷ (decimal c ++ 46 ∷ decimal d))

  quad_there : quad_of dotted ≡ Some (record { first = a; second = b; third = c; fourth = d })
  unfolding quad_of
  quad_there = rw (number_there a (decimal b ++ 46 ∷ (decimal c ++ 46 ∷ decimal d)) sa, number_there b (decimal c ++ 46 ∷ decimal d) sb, number_there c (decimal d) sc, small_number-decimal d sd) refl

  after_dot : (n : ℕ) (bs : List ℕ) → n < 256 → have_no 47 bs ≡ true → have_no 47 (decimal n ++ 46 ∷ bs) ≡ true
  after_dot n bs small none = list_all-append (λ x. not (x == 47)) (decimal n) (46 ∷ bs) ∙ ap₂ (λ (x y : Bool). x && y) (number_has_no 47 n refl small) none

  no_slash : have_no 47 dotted ≡ true
  no_slash = after_dot a _ sa (after_dot b _ sb (after_dot c _ sc (number_has_no 47 d refl sd)))

  octets : are_octets (record { first = a; second = b; third = c; fourth = d }) ≡ true
  octets = rw (le-leb a 255 (omega (arith, sa)), le-leb b 255 (omega (arith, sb)), le-leb c 255 (omega (arith, sc)), le-leb d 255 (omega (arith, sd))) refl

  addressed : address_of dotted ≡ Some (bits_of (record { first = a; second = b; third = c; fourth = d }))
  unfolding address_of
  addressed = rw (quad_there, octets) refl

  parsed : (bits len : ℕ) → bits_of (record { first = a; second = b; third = c; fourth = d }) ≡ bits → len ≤ 32 → bits % 2 ^ (32 - len) ≡ 0
      → prefix_spelled (dotted ++ 47 ∷ decimal len) ≡ Ok (record { bits = bits; len = len })
  unfolding prefix_spelled
  parsed bits len whole short clean =
      rw (cut_at-there 47 dotted (decimal len) no_slash, quad_there, length_number-decimal len short, octets, le-leb len 32 short, whole, eq-eqb (bits % 2 ^ (32 - len)) 0 clean) refl

-- an address is read from its text
pub address_of-address_text : (n : ℕ) → n < 2 ^ 32 → address_of (address_text n) ≡ Some n
address_of-address_text n wide =
    let fits : n < 4294967296 = wide in
    let a : ℕ = n / 16777216 in
    let b : ℕ = n / 65536 % 256 in
    let c : ℕ = n / 256 % 256 in
    let d : ℕ = n % 256 in
    let order : address_text n ≡ decimal a ++ 46 ∷ (decimal b ++ 46 ∷ (decimal c ++ 46 ∷ decimal d)) = simp append_assoc refl in
    let whole : bits_of (record { first = a; second = b; third = c; fourth = d }) ≡ n = omega arith in
    ap address_of order ∙ addressed a b c d (omega arith) (omega arith) (omega arith) (omega arith) ∙ ap (λ (m : ℕ). Some m) whole

-- a prefix is read from its text
pub prefix_spelled-prefix_text : (p : PlainPrefix) → IsPrefix p → prefix_spelled (prefix_text p) ≡ Ok p
prefix_spelled-prefix_text p is =
    let wide : p.bits < 2 ^ 32 = is.wide in
    let a : ℕ = p.bits / 16777216 in
    let b : ℕ = p.bits / 65536 % 256 in
    let c : ℕ = p.bits / 256 % 256 in
    let d : ℕ = p.bits % 256 in
    let order : prefix_text p ≡ (decimal a ++ 46 ∷ (decimal b ++ 46 ∷ (decimal c ++ 46 ∷ decimal d))) ++ 47 ∷ decimal p.len = simp append_assoc refl in
    let whole : bits_of (record { first = a; second = b; third = c; fourth = d }) ≡ p.bits = omega arith in
    ap prefix_spelled order ∙ parsed a b c d (omega arith) (omega arith) (omega arith) (omega arith) p.bits p.len whole is.within is.clean
