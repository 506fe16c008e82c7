-- Words at the front of a text: a word ends where a byte follows that it can't have, so it is read in one way only.
use Rattle.std.proofs.Common.{◌≡◌, ℕ, ◌+◌, ◌/◌, ◌%◌, ◌^◌, ◌<◌, ◌≤◌, List, [], ◌∷◌, ◌++◌, Bool, true, refl, sym, ap, ◌∙◌, arith, append_assoc}
use Rattle.std.specs.Prelude.{not}
use Rattle.std.specs.List.{list_all}
use Rattle.std.specs.Fmt.{decimal}
use Rattle.std.proofs.lemmas.Bool.{and_parts, le-leb}
use Rattle.std.proofs.lemmas.List.Folds.{list_all-append}
use Rattle.std.proofs.lemmas.Fmt.{decimal_by_steps, decimal_injective}
use Rattle.net_base.specs.Addresses.{is_figure}
use Rattle.text_parts.specs.Ends.{stops}
use Rattle.text_parts.specs.Texts.{address_text}

pub word_cut : (p : ℕ → Bool) (w v rest more : List ℕ) → list_all p w ≡ true → list_all p v ≡ true → stops p rest ≡ true → stops p more ≡ true
    → w ++ rest ≡ v ++ more → (w ≡ v) × (rest ≡ more)
word_cut p [] [] rest more hw hv hr hm e = (refl, e)
word_cut p [] (b ∷ v) rest more hw hv hr hm e =
    let one = and_parts (p b) (list_all p v) hv in
    let clash : not (p b) ≡ true = ap (stops p) (sym e) ∙ hr in
    absurd (cc (clash, ap not one.0))
word_cut p (a ∷ w) [] rest more hw hv hr hm e =
    let one = and_parts (p a) (list_all p w) hw in
    let clash : not (p a) ≡ true = ap (stops p) e ∙ hm in
    absurd (cc (clash, ap not one.0))
word_cut p (a ∷ w) (b ∷ v) rest more hw hv hr hm e =
    let tail : w ++ rest ≡ v ++ more = cc in
    let head : a ≡ b = cc in
    let next = word_cut p w v rest more (and_parts (p a) (list_all p w) hw).1 (and_parts (p b) (list_all p v) hv).1 hr hm tail in
    (cc (head, next.0), next.1)

figure_at : (n : ℕ) → n < 10 → is_figure (48 + n) ≡ true
figure_at n low = rw (le-leb 48 (48 + n) (omega arith), le-leb (48 + n) 57 (omega arith)) refl

-- a number is written with digits alone
pub figures : (n : ℕ) → n < 2 ^ 64 → list_all is_figure (decimal n) ≡ true
figures n low = decimal_by_steps (λ (k : ℕ) (ds : List ℕ). list_all is_figure ds ≡ true) one more n low
  where
    one : (k : ℕ) → k < 10 → list_all is_figure ((48 + k) ∷ []) ≡ true
    one k small = rw (figure_at k small) refl

    more : (k : ℕ) (ds : List ℕ) → 10 ≤ k → list_all is_figure ds ≡ true → list_all is_figure (ds ++ ((48 + k % 10) ∷ [])) ≡ true
    more k ds large all = rw (list_all-append is_figure ds ((48 + k % 10) ∷ []), all, figure_at (k % 10) (omega arith)) refl

pub number_cut : (m n : ℕ) (rest more : List ℕ) → m < 2 ^ 64 → n < 2 ^ 64 → stops is_figure rest ≡ true → stops is_figure more ≡ true
    → decimal m ++ rest ≡ decimal n ++ more → (m ≡ n) × (rest ≡ more)
number_cut m n rest more lm ln hr hm e =
    let cut = word_cut is_figure (decimal m) (decimal n) rest more (figures m lm) (figures n ln) hr hm e in
    (decimal_injective m n lm ln cut.0, cut.1)

-- the four numbers of an address
address_parts : (m : ℕ) (rest : List ℕ) → address_text m ++ rest
    ≡ decimal (m / 16777216) ++ (46 ∷ (decimal (m / 65536 % 256) ++ (46 ∷ (decimal (m / 256 % 256) ++ (46 ∷ (decimal (m % 256) ++ rest))))))
address_parts m rest = simp append_assoc refl

-- what follows one byte
pub after : (b : ℕ) (rest more : List ℕ) → b ∷ rest ≡ b ∷ more → rest ≡ more
after b rest more e = cc

pub address_cut : (m n : ℕ) (rest more : List ℕ) → m < 2 ^ 32 → n < 2 ^ 32 → stops is_figure rest ≡ true → stops is_figure more ≡ true
    → address_text m ++ rest ≡ address_text n ++ more → (m ≡ n) × (rest ≡ more)
address_cut m n rest more lm ln hr hm e =
    let parts = sym (address_parts m rest) ∙ e ∙ address_parts n more in
    let a = number_cut (m / 16777216) (n / 16777216) _ _ (omega arith) (omega arith) refl refl parts in
    let b = number_cut (m / 65536 % 256) (n / 65536 % 256) _ _ (omega arith) (omega arith) refl refl (after 46 _ _ a.1) in
    let c = number_cut (m / 256 % 256) (n / 256 % 256) _ _ (omega arith) (omega arith) refl refl (after 46 _ _ b.1) in
    let d = number_cut (m % 256) (n % 256) rest more (omega arith) (omega arith) hr hm (after 46 _ _ c.1) in
    let first : m / 16777216 ≡ n / 16777216 = a.0 in
    let second : m / 65536 % 256 ≡ n / 65536 % 256 = b.0 in
    let third : m / 256 % 256 ≡ n / 256 % 256 = c.0 in
    let fourth : m % 256 ≡ n % 256 = d.0 in
    (omega arith, d.1)
