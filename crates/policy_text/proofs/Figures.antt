-- Numbers and prefixes as figures.
use Rattle.std.proofs.Common.{◌≡◌, ℕ, ◌/◌, ◌%◌, ◌^◌, ◌<◌, ◌≤◌, List, [], ◌∷◌, ◌++◌, length, Bool, true, false, refl, sym, ap, ◌∙◌, arith, append_assoc, append-nil}
use Rattle.policy_text.proofs.Words.{figure}
use Rattle.policy_text.proofs.Cuts.{AreAscii}
use Rattle.text_parts.proofs.Numbers.{digits_below, figure_range}
use Rattle.policy_text.proofs.CutWords.{CutsBefore, CutsBefore-figure}
use Rattle.std.proofs.lemmas.List.Folds.{list_all-append}
use Rattle.text_parts.specs.Texts.{prefix_text}
use Rattle.net_base.specs.Prefixes.{PlainPrefix, IsPrefix}
use Rattle.std.specs.Prelude.{◌&&◌, ◌==◌, not}
use Rattle.std.specs.List.{list_all}
use Rattle.std.specs.Fmt.{decimal}
use Rattle.std.proofs.lemmas.Bool.{and_parts}
use Rattle.net_base.specs.Addresses.{is_figure}
use Rattle.policy_tokens.specs.Tokens.{is_figure_byte}

-- a figure: a digit first, then digits, dots and slashes
abbrev pub is_figure_text : List ℕ → Bool
is_figure_text [] = false
is_figure_text (b ∷ bs) = is_figure b && list_all is_figure_byte bs

wider : (bs : List ℕ) → list_all is_figure bs ≡ true → list_all is_figure_byte bs ≡ true
wider [] all = refl
wider (b ∷ bs) all = let h = and_parts (is_figure b) (list_all is_figure bs) all in rw (h.0, wider bs h.1) refl

pub figure_bytes : (n : ℕ) → n < 256 → list_all is_figure_byte (decimal n) ≡ true
figure_bytes n low = wider (decimal n) (digits_below n low).0

figure_from_digits : (ds bs : List ℕ) → list_all is_figure ds ≡ true → not (length ds == 0) ≡ true → list_all is_figure_byte bs ≡ true → is_figure_text (ds ++ bs) ≡ true
figure_from_digits [] bs all some rest = absurd (cc)
figure_from_digits (d ∷ ds) bs all some rest =
    let h = and_parts (is_figure d) (list_all is_figure ds) all in
    rw (h.0, list_all-append is_figure_byte ds bs, wider ds h.1, rest) refl

-- what begins with a number below 256 is a figure where the rest is such bytes
pub is_figure_text-decimal : (n : ℕ) (bs : List ℕ) → n < 256 → list_all is_figure_byte bs ≡ true → is_figure_text (decimal n ++ bs) ≡ true
is_figure_text-decimal n bs low rest = let d = digits_below n low in figure_from_digits (decimal n) bs d.0 d.1 rest

pub is_figure_text-number : (n : ℕ) → n < 256 → is_figure_text (decimal n) ≡ true
is_figure_text-number n low = ap is_figure_text (sym (append-nil (decimal n))) ∙ is_figure_text-decimal n [] low refl

after_sign : (sign n : ℕ) (bs : List ℕ) → is_figure_byte sign ≡ true → n < 256 → list_all is_figure_byte bs ≡ true → list_all is_figure_byte (sign ∷ (decimal n ++ bs)) ≡ true
after_sign sign n bs fine low rest = rw (fine, list_all-append is_figure_byte (decimal n) bs, figure_bytes n low, rest) refl

-- the parts of a prefix
pub prefix_text-parts : (p : PlainPrefix)
    → prefix_text p
    ≡ decimal (p.bits / 16777216) ++ (46 ∷ (decimal (p.bits / 65536 % 256) ++ (46 ∷ (decimal (p.bits / 256 % 256) ++ (46 ∷ (decimal (p.bits % 256) ++ (47 ∷ decimal p.len)))))))
prefix_text-parts p = simp append_assoc refl

pub is_figure_text-prefix : (p : PlainPrefix) → IsPrefix p → is_figure_text (prefix_text p) ≡ true
is_figure_text-prefix p is =
    let wide : p.bits < 2 ^ 32 = is.wide in
    let short : p.len ≤ 32 = is.within in
    let len : list_all is_figure_byte (47 ∷ decimal p.len) ≡ true = figure_bytes p.len (omega arith) in
    let first : p.bits / 16777216 < 256 = omega arith in
    let second : p.bits / 65536 % 256 < 256 = omega arith in
    let third : p.bits / 256 % 256 < 256 = omega arith in
    let fourth : p.bits % 256 < 256 = omega arith in
    ap is_figure_text (prefix_text-parts p)
    ∙ is_figure_text-decimal (p.bits / 16777216) _ first
    (after_sign 46 (p.bits / 65536 % 256) _ refl second (after_sign 46 (p.bits / 256 % 256) _ refl third (after_sign 46 (p.bits % 256) _ refl fourth len)))

figure_byte_ascii : (b : ℕ) → is_figure_byte b ≡ true → b < 128
figure_byte_ascii b h = grind arith

all_ascii : (bs : List ℕ) → list_all is_figure_byte bs ≡ true → AreAscii bs
all_ascii [] all = tt
all_ascii (b ∷ bs) all = let h = and_parts (is_figure_byte b) (list_all is_figure_byte bs) all in (figure_byte_ascii b h.0, all_ascii bs h.1)

pub CutsBefore-figure_text : (w : List ℕ) → is_figure_text w ≡ true → CutsBefore w (figure w ∷ [])
CutsBefore-figure_text [] h = absurd (cc)
CutsBefore-figure_text (b ∷ bs) h =
    let p = and_parts (is_figure b) (list_all is_figure_byte bs) h in
    CutsBefore-figure b bs p.0 p.1 (omega (arith, figure_range b p.0), all_ascii bs p.1)
