-- Names and identifiers need no escape.
use Rattle.std.proofs.Common.{◌≡◌, ℕ, ◌^◌, ◌<◌, ◌≤◌, ◌/◌, ◌%◌, Bool, true, false, List, [], ◌∷◌, ◌++◌, refl, sym, ap, ap₂, arith}
use Rattle.std.specs.Prelude.{◌≢◌, ◌&&◌, ◌||◌, ◌==◌, nat_le, IsTrue, codes}
use Rattle.std.specs.Fmt.{decimal}
use Rattle.std.specs.List.{AllByRecursion}
use Rattle.std.specs.Str.{IsUtf8}
use Rattle.std.proofs.lemmas.Bool.{and_parts, lt-ltb, leb-true, eqb-true}
use Rattle.json.specs.Print.{escape}
use Rattle.json.proofs.Printed.Strings.{escape_byte_plain}
use Rattle.json.proofs.Printed.Utf8.{IsUtf8-are_ascii, are_ascii}
use Rattle.list_law.proofs.Each.{AllByRecursion-append, AllByRecursion-from_list_all}
use Rattle.net_base.specs.Addresses.{is_figure}
use Rattle.net_base.specs.NameRule.{is_name, is_name_byte}
use Rattle.text_parts.specs.Texts.{address_text}
use Rattle.text_parts.proofs.NameBytes.{name_bytes}
use Rattle.text_parts.proofs.Numbers.{figure_range, list_all-is_figure}

-- a byte that JSON writes as it is
abbrev pub IsSimple : ℕ → Type 0
IsSimple x = (x ≢ 34) × (x ≢ 92) × (32 ≤ x) × (x < 128)

simple_escape : (s : List ℕ) → AllByRecursion IsSimple s → escape s ≡ s
simple_escape [] h = refl
simple_escape (x ∷ xs) h = ap₂ (λ (a b : List ℕ). a ++ b) (escape_byte_plain x h.0.0 h.0.1 h.0.2) (simple_escape xs h.1)

pub quoted_simple : (s : List ℕ) → AllByRecursion IsSimple s → codes "\"" ++ (s ++ (codes "\"" ++ [])) ≡ 34 ∷ (escape s ++ 34 ∷ [])
quoted_simple s h = ap (λ e. 34 ∷ (e ++ 34 ∷ [])) (sym (simple_escape s h))

simple_ascii : (s : List ℕ) → AllByRecursion IsSimple s → are_ascii s ≡ true
simple_ascii [] h = refl
simple_ascii (x ∷ xs) h = rw (lt-ltb x 128 h.0.3, simple_ascii xs h.1) refl

pub utf8_simple : (s : List ℕ) → AllByRecursion IsSimple s → IsUtf8 s
utf8_simple s h = IsUtf8-are_ascii s (simple_ascii s h)

-- ---- names

-- a byte between two numbers that are letters or figures of a name
simple_between : (least most x : ℕ) → 45 ≤ least → most < 128 → ((least ≤ 92) → most < 92) → (nat_le least x && nat_le x most) ≡ true → IsSimple x
simple_between least most x low high apart h =
    let p = and_parts (nat_le least x) (nat_le x most) h in
    let a = leb-true least x p.0 in
    let b = leb-true x most p.1 in
    (λ e. omega (arith, a, e), λ e. omega (arith, a, b, e, apart), omega (arith, a), omega (arith, b))

simple_name_byte : (x : ℕ) → is_name_byte x ≡ true → IsSimple x
simple_name_byte x h = by (nat_le 97 x && nat_le x 122) (nat_le 65 x && nat_le x 90) (nat_le 48 x && nat_le x 57) (x == 95) (x == 45) (x == 46) refl refl refl refl refl refl h
  where
    by : (a b c d e f : Bool) → (nat_le 97 x && nat_le x 122) ≡ a → (nat_le 65 x && nat_le x 90) ≡ b → (nat_le 48 x && nat_le x 57) ≡ c
        → (x == 95) ≡ d → (x == 45) ≡ e → (x == 46) ≡ f → ((a || b) || c || d || e || f) ≡ true → IsSimple x
    by true b c d e f p q r s t u h = simple_between 97 122 x (omega arith) (omega arith) (λ e. omega (arith, e)) p
    by false true c d e f p q r s t u h = simple_between 65 90 x (omega arith) (omega arith) (λ e. omega arith) q
    by false false true d e f p q r s t u h = simple_between 48 57 x (omega arith) (omega arith) (λ e. omega arith) r
    by false false false true e f p q r s t u h = let is = eqb-true x 95 s in (λ e. omega (arith, is, e), λ e. omega (arith, is, e), omega (arith, is), omega (arith, is))
    by false false false false true f p q r s t u h = let is = eqb-true x 45 t in (λ e. omega (arith, is, e), λ e. omega (arith, is, e), omega (arith, is), omega (arith, is))
    by false false false false false true p q r s t u h = let is = eqb-true x 46 u in (λ e. omega (arith, is, e), λ e. omega (arith, is, e), omega (arith, is), omega (arith, is))
    by false false false false false false p q r s t u h = absurd cc

pub simple_name : (name : List ℕ) → IsTrue (is_name name) → AllByRecursion IsSimple name
simple_name name is = AllByRecursion-from_list_all IsSimple is_name_byte simple_name_byte name (name_bytes name is)

-- ---- identifiers

simple_figures : (n : ℕ) → n < 256 → AllByRecursion IsSimple (decimal n)
simple_figures n low =
    AllByRecursion-from_list_all IsSimple is_figure
    (λ b h. let r = figure_range b h in (λ e. omega (arith, r.0, e), λ e. omega (arith, r.1, e), omega (arith, r.0), omega (arith, r.1)))
    (decimal n) (list_all-is_figure n low)

and : (s t : List ℕ) → AllByRecursion IsSimple s → AllByRecursion IsSimple t → AllByRecursion IsSimple (s ++ t)
and s t a b = AllByRecursion-append IsSimple s t a b

dot : AllByRecursion IsSimple (codes ".")
dot = ((λ e. omega (arith, e), λ e. omega (arith, e), omega arith, omega arith), tt)

pub simple_address : (n : ℕ) → n < 2 ^ 32 → AllByRecursion IsSimple (address_text n)
simple_address n wide =
    let fits : n < 4294967296 = wide in
    and _ _ (and _ _ (and _ _
    (and _ _ (and _ _ (and _ _ (simple_figures (n / 16777216) (omega arith)) dot) (simple_figures (n / 65536 % 256) (omega arith))) dot)
    (simple_figures (n / 256 % 256) (omega arith))) dot) (simple_figures (n % 256) (omega arith))
