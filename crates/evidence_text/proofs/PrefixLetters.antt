-- The text of a prefix needs no escape.
use Rattle.std.proofs.Common.{◌≡◌, ℕ, ◌<◌, ◌≤◌, ◌/◌, ◌%◌, List, [], ◌∷◌, ◌++◌, refl, sym, ap, ap₂, arith}
use Rattle.std.specs.Prelude.{codes}
use Rattle.std.specs.Fmt.{decimal}
use Rattle.std.specs.List.{AllByRecursion}
use Rattle.list_law.proofs.Each.{AllByRecursion-append, AllByRecursion-weaker, AllByRecursion-from_list_all}
use Rattle.json.specs.Print.{escape}
use Rattle.json.proofs.Printed.Strings.{escape_byte_plain}
use Rattle.net_base.specs.Addresses.{is_figure}
use Rattle.net_base.specs.Prefixes.{PlainPrefix, IsPrefix}
use Rattle.text_parts.specs.Texts.{prefix_text}
use Rattle.text_parts.proofs.Numbers.{figure_range, list_all-is_figure}

-- a digit, a dot or a slash
abbrev IsLetter : ℕ → Type 0
IsLetter x = (46 ≤ x) × (x ≤ 57)

letters : (s : List ℕ) → AllByRecursion IsLetter s → escape s ≡ s
letters [] h = refl
letters (x ∷ xs) h =
    let low : 46 ≤ x = h.0.0 in
    let high : x ≤ 57 = h.0.1 in
    ap₂ (λ (a b : List ℕ). a ++ b) (escape_byte_plain x (λ e. omega arith) (λ e. omega arith) (omega arith)) (letters xs h.1)

figures : (n : ℕ) → n < 256 → AllByRecursion IsLetter (decimal n)
figures n low = AllByRecursion-from_list_all IsLetter is_figure (λ b h. let r = figure_range b h in (omega (arith, r.0), r.1)) (decimal n) (list_all-is_figure n low)

and : (s t : List ℕ) → AllByRecursion IsLetter s → AllByRecursion IsLetter t → AllByRecursion IsLetter (s ++ t)
and s t a b = AllByRecursion-append IsLetter s t a b

dot : AllByRecursion IsLetter (codes ".")
dot = ((omega arith, omega arith), tt)

slash : AllByRecursion IsLetter (codes "/")
slash = ((omega arith, omega arith), tt)

prefix_letters : (p : PlainPrefix) → IsPrefix p → AllByRecursion IsLetter (prefix_text p)
prefix_letters p is =
    let wide : p.bits < 4294967296 = is.wide in
    and _ _
    (and _ _
    (and _ _
    (and _ _
    (and _ _
    (and _ _
    (and _ _ (and _ _ (figures (p.bits / 16777216) (omega arith)) dot) (figures (p.bits / 65536 % 256) (omega arith))) dot) (figures (p.bits / 256 % 256) (omega arith))) dot)
    (figures (p.bits % 256) (omega arith))) slash) (figures p.len (omega (arith, is.within)))

pub escape-prefix_text : (p : PlainPrefix) → IsPrefix p → escape (prefix_text p) ≡ prefix_text p
escape-prefix_text p is = letters (prefix_text p) (prefix_letters p is)

pub ascii-prefix_text : (p : PlainPrefix) → IsPrefix p → AllByRecursion (λ x. x < 128) (prefix_text p)
ascii-prefix_text p is = AllByRecursion-weaker IsLetter (λ x. x < 128) (prefix_text p) (λ x h. omega (arith, h.1)) (prefix_letters p is)

pub quoted_prefix : (p : PlainPrefix) → IsPrefix p → codes "\"" ++ (prefix_text p ++ (codes "\"" ++ [])) ≡ 34 ∷ (escape (prefix_text p) ++ 34 ∷ [])
quoted_prefix p is = ap (λ e. 34 ∷ (e ++ 34 ∷ [])) (sym (escape-prefix_text p is))
