-- Addresses and prefixes that are read are written so, and addresses that are written are read again.
use Rattle.std.proofs.Common.{◌≡◌, ℕ, suc, ◌+◌, ◌-◌, ◌*◌, ◌/◌, ◌%◌, ◌^◌, ◌<◌, ◌≤◌, List, [], ◌∷◌, ◌++◌, length, take, drop, Bool, true, false, Option, Some, None, Ok, refl}
use Rattle.std.proofs.Common.{sym, ◌∙◌, ap, ap₂, arith, append_assoc}
use Rattle.std.specs.Prelude.{◌≢◌, ◌&&◌, ◌==◌, nat_le, if◌then◌else◌, codes}
use Rattle.std.specs.List.{position_or_len}
use Rattle.std.specs.Fmt.{decimal}
use Rattle.std.proofs.lemmas.Bool.{and_parts, eqb-true, eqb-false, leb-true, le-leb}
use Rattle.std.proofs.lemmas.Option.{same_Some}
use Rattle.std.proofs.lemmas.Fmt.{decimal_digit, decimal_step}
use Rattle.list_law.proofs.Positions.{position_or_len-first, position_or_len-next}
use Rattle.net_base.proofs.PrefixLemmas.{bits_below}
use Rattle.net_base.specs.Addresses.{is_figure, is_leading, small_number, cut_at, Quad, number_and_rest, quad_of, are_octets, bits_of, address_of}
use Rattle.net_base.specs.Prefixes.{PlainPrefix}
use Rattle.net_base.specs.PrefixText.{length_number, prefix_spelled}
use Rattle.net_base.specs.Steps.{or_fault, unless}
use Rattle.net_base.specs.declared.prefix_text.PrefixFault.TheVariants.{Shape, Octet, Length, HostBits}
use Rattle.net_base.proofs.StepLemmas.{bind_ok, unless_ok, or_fault_ok, ok_same}
use Rattle.text_parts.specs.Texts.{address_text, prefix_text}
use Rattle.text_parts.proofs.Numbers.{figure_range}
use Rattle.config_lines.proofs.Chains.{bind_some}

abbrev is_sign : ℕ → ℕ → Bool
is_sign sign b = b == sign

-- the byte at which a text is cut
place_cut : (sign : ℕ) (bs : List ℕ) → position_or_len (is_sign sign) bs ≢ length bs
    → bs ≡ take (position_or_len (is_sign sign) bs) bs ++ sign ∷ drop (position_or_len (is_sign sign) bs + 1) bs
place_cut sign [] h = absurd (h refl)
place_cut sign (x ∷ xs) h = by (place_cut sign xs) (x == sign) refl h
  where
    by : (position_or_len (is_sign sign) xs ≢ length xs → xs ≡ take (position_or_len (is_sign sign) xs) xs ++ sign ∷ drop (position_or_len (is_sign sign) xs + 1) xs)
        → (b : Bool) → (x == sign) ≡ b → position_or_len (is_sign sign) (x ∷ xs) ≢ length (x ∷ xs)
        → x ∷ xs ≡ take (position_or_len (is_sign sign) (x ∷ xs)) (x ∷ xs) ++ sign ∷ drop (position_or_len (is_sign sign) (x ∷ xs) + 1) (x ∷ xs)
    by later true e k = rw (position_or_len-first (is_sign sign) x xs e) (ap (λ (y : ℕ). y ∷ xs) (eqb-true x sign e))
    by later false e k =
        let i : ℕ = position_or_len (is_sign sign) xs in
        let step : position_or_len (is_sign sign) (x ∷ xs) ≡ suc i = position_or_len-next (is_sign sign) x xs e ∙ omega arith in
        let next : suc i + 1 ≡ suc (i + 1) = omega arith in
        let apart : i ≢ length xs = λ same. k (step ∙ ap suc same) in
        rw (step, next) (ap (λ (ys : List ℕ). x ∷ ys) (later apart))

abbrev halves_at : Bool → ℕ → List ℕ → Option (List ℕ × List ℕ)
halves_at b i bs = let p : List ℕ × List ℕ = (take i bs, drop (i + 1) bs) in if b then None else Some p

pub cut_back : (sign : ℕ) (bs a b : List ℕ) → cut_at sign bs ≡ Some (a, b) → bs ≡ a ++ sign ∷ b
cut_back sign bs a b h = by (position_or_len (is_sign sign) bs == length bs) refl h
  where
    by : (t : Bool) → (position_or_len (is_sign sign) bs == length bs) ≡ t
        → halves_at t (position_or_len (is_sign sign) bs) bs ≡ Some (a, b) → bs ≡ a ++ sign ∷ b
    by true e k = absurd cc
    by false e k =
        let i : ℕ = position_or_len (is_sign sign) bs in
        let pair : (let p : List ℕ × List ℕ = (take i bs, drop (i + 1) bs) in p) ≡ (a, b) = same_Some _ _ k in
        let front : take i bs ≡ a = ap (λ (p : List ℕ × List ℕ). p.0) pair in
        let back : drop (i + 1) bs ≡ b = ap (λ (p : List ℕ × List ℕ). p.1) pair in
        place_cut sign bs (eqb-false (position_or_len (is_sign sign) bs) (length bs) e) ∙ ap₂ (λ (x y : List ℕ). x ++ sign ∷ y) front back

-- ---- numbers below 1000

one_digit : (a : ℕ) → is_figure a ≡ true → decimal (a - 48) ≡ a ∷ []
one_digit a h = let r = figure_range a h in decimal_digit (a - 48) (omega (arith, r.1)) ∙ (let same : 48 + (a - 48) ≡ a = omega (arith, r.0) in ap (λ (x : ℕ). x ∷ []) same)

leads : (a : ℕ) → is_leading a ≡ true → is_figure a ≡ true × (49 ≤ a)
leads a h = let p = and_parts (nat_le 49 a) (nat_le a 57) h in (rw (le-leb 48 a (omega (arith, leb-true 49 a p.0)), p.1) refl, leb-true 49 a p.0)

two_digits : (a b : ℕ) → is_leading a ≡ true → is_figure b ≡ true → decimal (10 * (a - 48) + (b - 48)) ≡ a ∷ b ∷ []
two_digits a b ha hb =
    let la = leads a ha in
    let ra = figure_range a la.0 in
    let rb = figure_range b hb in
    let n : ℕ = 10 * (a - 48) + (b - 48) in
    let front : n / 10 ≡ a - 48 = omega (arith, ra.0, ra.1, rb.0, rb.1) in
    let last : 48 + n % 10 ≡ b = omega (arith, ra.0, ra.1, rb.0, rb.1) in
    decimal_step n (omega (arith, la.1)) (omega (arith, ra.1, rb.1)) ∙ ap₂ (λ (m k : ℕ). decimal m ++ (k ∷ [])) front last ∙ ap (λ (ds : List ℕ). ds ++ (b ∷ [])) (one_digit a la.0)

three_digits : (a b c : ℕ) → is_leading a ≡ true → is_figure b ≡ true → is_figure c ≡ true → decimal (100 * (a - 48) + 10 * (b - 48) + (c - 48)) ≡ a ∷ b ∷ c ∷ []
three_digits a b c ha hb hc =
    let la = leads a ha in
    let ra = figure_range a la.0 in
    let rb = figure_range b hb in
    let rc = figure_range c hc in
    let n : ℕ = 100 * (a - 48) + 10 * (b - 48) + (c - 48) in
    let front : n / 10 ≡ 10 * (a - 48) + (b - 48) = omega (arith, ra.0, ra.1, rb.0, rb.1, rc.0, rc.1) in
    let last : 48 + n % 10 ≡ c = omega (arith, ra.0, ra.1, rb.0, rb.1, rc.0, rc.1) in
    decimal_step n (omega (arith, la.1)) (omega (arith, ra.1, rb.1, rc.1)) ∙ ap₂ (λ (m k : ℕ). decimal m ++ (k ∷ [])) front last ∙ ap (λ (ds : List ℕ). ds ++ (c ∷ [])) (two_digits a b ha hb)

-- a number that is read is its text
pub small_back : (ds : List ℕ) (n : ℕ) → small_number ds ≡ Some n → ds ≡ decimal n
small_back [] n h = absurd cc
small_back (a ∷ []) n h = by (is_figure a) refl h
  where
    by : (t : Bool) → is_figure a ≡ t → (if t then Some (a - 48) else None) ≡ Some n → a ∷ [] ≡ decimal n
    by true e k = let same : a - 48 ≡ n = cc in sym (one_digit a e) ∙ ap decimal same
    by false e k = absurd cc
small_back (a ∷ b ∷ []) n h = by (is_leading a) (is_figure b) refl refl h
  where
    by : (s t : Bool) → is_leading a ≡ s → is_figure b ≡ t → (if s && t then Some (10 * (a - 48) + (b - 48)) else None) ≡ Some n → a ∷ b ∷ [] ≡ decimal n
    by true true e f k = let same : 10 * (a - 48) + (b - 48) ≡ n = cc in sym (two_digits a b e f) ∙ ap decimal same
    by true false e f k = absurd cc
    by false t e f k = absurd cc
small_back (a ∷ b ∷ c ∷ []) n h = by (is_leading a) (is_figure b) (is_figure c) refl refl refl h
  where
    by : (s t u : Bool) → is_leading a ≡ s → is_figure b ≡ t → is_figure c ≡ u
        → (if s && (t && u) then Some (100 * (a - 48) + 10 * (b - 48) + (c - 48)) else None) ≡ Some n → a ∷ b ∷ c ∷ [] ≡ decimal n
    by true true true e f g k = let same : 100 * (a - 48) + 10 * (b - 48) + (c - 48) ≡ n = cc in sym (three_digits a b c e f g) ∙ ap decimal same
    by true true false e f g k = absurd cc
    by true false u e f g k = absurd cc
    by false t u e f g k = absurd cc
small_back (a ∷ b ∷ c ∷ d ∷ ds) n h = absurd cc

-- a length that is read is its text
pub length_back : (ds : List ℕ) (n : ℕ) → length_number ds ≡ Some n → ds ≡ decimal n
length_back ds n h = by (nat_le (length ds) 2) h
  where
    by : (t : Bool) → (if t then small_number ds else None) ≡ Some n → ds ≡ decimal n
    by true k = small_back ds n k
    by false k = absurd cc

-- ---- addresses

number_back : (bs : List ℕ) (n : ℕ) (rest : List ℕ) → number_and_rest bs ≡ Some (n, rest) → bs ≡ decimal n ++ 46 ∷ rest
number_back bs n rest h =
    let halves = bind_some (cut_at 46 bs) _ (n, rest) h in
    let number = bind_some (small_number halves.0.0) _ (n, rest) halves.2 in
    let pair : (let p : ℕ × List ℕ = (number.0, halves.0.1) in p) ≡ (n, rest) = same_Some _ _ number.2 in
    let same : number.0 ≡ n = ap (λ (p : ℕ × List ℕ). p.0) pair in
    let tail : halves.0.1 ≡ rest = ap (λ (p : ℕ × List ℕ). p.1) pair in
    cut_back 46 bs halves.0.0 halves.0.1 halves.1 ∙ ap₂ (λ (x y : List ℕ). x ++ 46 ∷ y) (small_back halves.0.0 number.0 number.1 ∙ ap decimal same) tail

abbrev dotted : Quad → List ℕ
dotted q = decimal q.first ++ 46 ∷ (decimal q.second ++ 46 ∷ (decimal q.third ++ 46 ∷ decimal q.fourth))

quad_back : (bs : List ℕ) (q : Quad) → quad_of bs ≡ Some q → bs ≡ dotted q
unfolding quad_of
quad_back bs q h =
    let a = bind_some (number_and_rest bs) _ q h in
    let b = bind_some (number_and_rest a.0.1) _ q a.2 in
    let c = bind_some (number_and_rest b.0.1) _ q b.2 in
    let d = bind_some (small_number c.0.1) _ q c.2 in
    let made : Quad = record { first = a.0.0; second = b.0.0; third = c.0.0; fourth = d.0 } in
    let one : made ≡ q = same_Some made q d.2 in
    let whole : bs ≡ dotted made =
    number_back bs a.0.0 a.0.1 a.1
    ∙ ap (λ (r : List ℕ). decimal a.0.0 ++ 46 ∷ r)
    (number_back a.0.1 b.0.0 b.0.1 b.1 ∙ ap (λ (r : List ℕ). decimal b.0.0 ++ 46 ∷ r)
    (number_back b.0.1 c.0.0 c.0.1 c.1 ∙ ap (λ (r : List ℕ). decimal c.0.0 ++ 46 ∷ r) (small_back c.0.1 d.0 d.1))) in
    whole ∙ ap dotted one

-- the text of four bytes
dotted_text : (q : Quad) → are_octets q ≡ true → dotted q ≡ address_text (bits_of q)
dotted_text q octets =
    let a = and_parts (nat_le q.first 255) _ octets in
    let b = and_parts (nat_le q.second 255) _ a.1 in
    let c = and_parts (nat_le q.third 255) _ b.1 in
    let la = leb-true q.first 255 a.0 in
    let lb = leb-true q.second 255 b.0 in
    let lc = leb-true q.third 255 c.0 in
    let ld = leb-true q.fourth 255 c.1 in
    let first : bits_of q / 16777216 ≡ q.first = omega (arith, la, lb, lc, ld) in
    let second : bits_of q / 65536 % 256 ≡ q.second = omega (arith, la, lb, lc, ld) in
    let third : bits_of q / 256 % 256 ≡ q.third = omega (arith, la, lb, lc, ld) in
    let fourth : bits_of q % 256 ≡ q.fourth = omega (arith, la, lb, lc, ld) in
    rw (first, second, third, fourth) (sym (parts_by (decimal q.first) (decimal q.second) (decimal q.third) (decimal q.fourth)))
  where
    parts_by : (a b c d : List ℕ) → a ++ codes "." ++ b ++ codes "." ++ c ++ codes "." ++ d ≡ a ++ 46 ∷ (b ++ 46 ∷ (c ++ 46 ∷ d))
    parts_by a b c d = simp append_assoc refl

-- the parts of an address that is read
octets_of : (bs : List ℕ) (n : ℕ) → address_of bs ≡ Some n → (q : Quad) × (quad_of bs ≡ Some q) × (are_octets q ≡ true) × (bits_of q ≡ n)
unfolding address_of
octets_of bs n h =
    let q = bind_some (quad_of bs) _ n h in
    by q.0 q.1 (are_octets q.0) refl q.2
  where
    by : (q : Quad) → quad_of bs ≡ Some q → (t : Bool) → are_octets q ≡ t → (if t then Some (bits_of q) else None) ≡ Some n
        → (q : Quad) × (quad_of bs ≡ Some q) × (are_octets q ≡ true) × (bits_of q ≡ n)
    by q e true f k = let same : bits_of q ≡ n = cc in (q, e, f, same)
    by q e false f k = absurd cc

-- an address that is read is its text
pub address_back : (bs : List ℕ) (n : ℕ) → address_of bs ≡ Some n → (bs ≡ address_text n) × (n < 2 ^ 32)
address_back bs n h =
    let o = octets_of bs n h in
    let fits : bits_of o.0 < 2 ^ 32 = bits_below o.0 o.2 in
    (quad_back bs o.0 o.1 ∙ dotted_text o.0 o.2 ∙ ap address_text o.3, omega (arith, fits, o.3))

-- ---- prefixes

-- the two halves of a prefix that is read
prefix_halves : (bs : List ℕ) (p : PlainPrefix) → prefix_spelled bs ≡ Ok p → (a : List ℕ) × (bs ≡ a ++ 47 ∷ decimal p.len) × (address_of a ≡ Some p.bits)
unfolding prefix_spelled address_of
prefix_halves bs p h =
    let halves = bind_ok (or_fault Shape (cut_at 47 bs)) _ p h in
    let q = bind_ok (or_fault Shape (quad_of halves.0.0)) _ p halves.2 in
    let len = bind_ok (or_fault Shape (length_number halves.0.1)) _ p q.2 in
    let o = bind_ok (unless Octet (are_octets q.0)) _ p len.2 in
    let l = bind_ok (unless Length (nat_le len.0 32)) _ p o.2 in
    let c = bind_ok (unless HostBits (bits_of q.0 % 2 ^ (32 - len.0) == 0)) _ p l.2 in
    let made : PlainPrefix = record { bits = bits_of q.0; len = len.0 } in
    let one : made ≡ p = ok_same made p c.2 in
    let long : len.0 ≡ p.len = ap (λ (r : PlainPrefix). r.len) one in
    let wide : bits_of q.0 ≡ p.bits = ap (λ (r : PlainPrefix). r.bits) one in
    let octets : are_octets q.0 ≡ true = unless_ok Octet (are_octets q.0) o.0 o.1 in (
      halves.0.0,
      cut_back 47 bs halves.0.0 halves.0.1 (or_fault_ok Shape (cut_at 47 bs) halves.0 halves.1)
          ∙ ap (λ (ds : List ℕ). halves.0.0 ++ 47 ∷ ds) (length_back halves.0.1 len.0 (or_fault_ok Shape (length_number halves.0.1) len.0 len.1) ∙ ap decimal long),
      rw (or_fault_ok Shape (quad_of halves.0.0) q.0 q.1, octets) (ap Some wide),
    )

prefix_parts : (p : PlainPrefix) → prefix_text p ≡ address_text p.bits ++ 47 ∷ decimal p.len
prefix_parts p = append_assoc (address_text p.bits) (codes "/") (decimal p.len)

-- a prefix that is read is its text
pub prefix_back : (bs : List ℕ) (p : PlainPrefix) → prefix_spelled bs ≡ Ok p → bs ≡ prefix_text p
prefix_back bs p h =
    let halves = prefix_halves bs p h in
    halves.1 ∙ ap (λ (a : List ℕ). a ++ 47 ∷ decimal p.len) (address_back halves.0 p.bits halves.2).0 ∙ sym (prefix_parts p)
