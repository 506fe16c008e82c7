-- Prefixes, patterns and names at the front of a text are read in one way only.
use Rattle.std.proofs.Common.{◌≡◌, ℕ, ◌^◌, ◌<◌, List, [], ◌∷◌, ◌++◌, Bool, true, false, refl, sym, ap, ap₂, ◌∙◌, arith, append_assoc}
use Rattle.std.specs.Prelude.{◌==◌, IsTrue, codes, if◌then◌else◌}
use Rattle.std.specs.Fmt.{decimal}
use Rattle.std.proofs.lemmas.Bool.{eqb-true}
use Rattle.std.proofs.lemmas.List.{append_cancel_left}
use Rattle.net_base.specs.Addresses.{is_figure}
use Rattle.net_base.specs.NameRule.{is_name, is_name_byte}
use Rattle.net_base.specs.Prefixes.{PlainPrefix, PlainPattern, IsPrefix, IsPattern}
use Rattle.text_parts.specs.Ends.{stops, ends_pattern}
use Rattle.text_parts.specs.Texts.{address_text, prefix_text, pattern_text}
use Rattle.text_parts.proofs.NameBytes.{name_bytes}
use Rattle.text_parts.proofs.Words.{word_cut, number_cut, address_cut, after}

-- a name and a space
pub name_cut : (a b rest more : List ℕ) → IsTrue (is_name a) → IsTrue (is_name b) → a ++ 32 ∷ rest ≡ b ++ 32 ∷ more → (a ≡ b) × (rest ≡ more)
name_cut a b rest more ha hb e =
    let cut = word_cut is_name_byte a b (32 ∷ rest) (32 ∷ more) (name_bytes a ha) (name_bytes b hb) refl refl e in
    (cut.0, after 32 rest more cut.1)

prefix_parts : (p : PlainPrefix) (rest : List ℕ) → prefix_text p ++ rest ≡ address_text p.bits ++ (47 ∷ (decimal p.len ++ rest))
prefix_parts p rest = simp append_assoc refl

pub prefix_cut : (p q : PlainPrefix) (rest more : List ℕ) → IsPrefix p → IsPrefix q → stops is_figure rest ≡ true → stops is_figure more ≡ true
    → prefix_text p ++ rest ≡ prefix_text q ++ more → (p ≡ q) × (rest ≡ more)
prefix_cut p q rest more hp hq hr hm e =
    let parts = sym (prefix_parts p rest) ∙ e ∙ prefix_parts q more in
    let a = address_cut p.bits q.bits _ _ hp.wide hq.wide refl refl parts in
    let b = number_cut p.len q.len rest more (omega (arith, hp.within)) (omega (arith, hq.within)) hr hm (after 47 _ _ a.1) in
    (ap₂ (λ (m n : ℕ). let r : PlainPrefix = record { bits = m; len = n } in r) a.0 b.0, b.1)

ended : (rest : List ℕ) → ends_pattern rest ≡ true → stops is_figure rest ≡ true
ended [] h = absurd (cc)
ended (b ∷ bs) h = grind arith

-- the greatest length of a pattern, where it's written
abbrev upto_text : Bool → ℕ → List ℕ
upto_text b n = if b then [] else codes " le " ++ decimal n

upto_stops : (b : Bool) (n : ℕ) (rest : List ℕ) → ends_pattern rest ≡ true → stops is_figure (upto_text b n ++ rest) ≡ true
upto_stops true n rest h = ended rest h
upto_stops false n rest h = refl

upto_cut : (b c : Bool) (m n : ℕ) (rest more : List ℕ) → m < 2 ^ 64 → n < 2 ^ 64 → ends_pattern rest ≡ true → ends_pattern more ≡ true
    → upto_text b m ++ rest ≡ upto_text c n ++ more → (b ≡ c) × ((b ≡ false → m ≡ n) × (rest ≡ more))
upto_cut true true m n rest more lm ln hr hm e = (refl, ((λ h. absurd (cc)), e))
upto_cut true false m n rest more lm ln hr hm e = let clash : ends_pattern rest ≡ false = ap ends_pattern e in absurd (cc)
upto_cut false true m n rest more lm ln hr hm e = let clash : ends_pattern more ≡ false = ap ends_pattern (sym e) in absurd (cc)
upto_cut false false m n rest more lm ln hr hm e =
    let cut = number_cut m n rest more lm ln (ended rest hr) (ended more hm) (append_cancel_left (codes " le ") (decimal m ++ rest) (decimal n ++ more) e) in
    (refl, ((λ h. cut.0), cut.1))

pattern_parts : (t : PlainPattern) (rest : List ℕ) → pattern_text t ++ rest ≡ prefix_text t.base ++ (upto_text (t.upto == t.base.len) t.upto ++ rest)
pattern_parts t rest = parts_by (t.upto == t.base.len) (prefix_text t.base)
  where
    parts_by : (b : Bool) (base : List ℕ) → (if b then base else base ++ codes " le " ++ decimal t.upto) ++ rest ≡ base ++ (upto_text b t.upto ++ rest)
    parts_by true base = refl
    parts_by false base = simp append_assoc refl

same_upto : (b : Bool) (m n k : ℕ) → (m == k) ≡ b → (n == k) ≡ b → (b ≡ false → m ≡ n) → m ≡ n
same_upto true m n k hm hn other = eqb-true m k hm ∙ sym (eqb-true n k hn)
same_upto false m n k hm hn other = other refl

pub pattern_cut : (t u : PlainPattern) (rest more : List ℕ) → IsPattern t → IsPattern u → ends_pattern rest ≡ true → ends_pattern more ≡ true
    → pattern_text t ++ rest ≡ pattern_text u ++ more → (t ≡ u) × (rest ≡ more)
pattern_cut t u rest more ht hu hr hm e =
    let parts = sym (pattern_parts t rest) ∙ e ∙ pattern_parts u more in
    let b : Bool = t.upto == t.base.len in
    let c : Bool = u.upto == u.base.len in
    let base = prefix_cut t.base u.base _ _ ht.prefix hu.prefix (upto_stops b t.upto rest hr) (upto_stops c u.upto more hm) parts in
    let last = upto_cut b c t.upto u.upto rest more (omega (arith, ht.most)) (omega (arith, hu.most)) hr hm base.1 in
    let same : t.upto ≡ u.upto = same_upto b t.upto u.upto t.base.len refl (ap (λ (p : PlainPrefix). u.upto == p.len) base.0 ∙ sym last.0) last.1.0 in
    (ap₂ (λ (p : PlainPrefix) (n : ℕ). let r : PlainPattern = record { base = p; upto = n } in r) base.0 same, last.1.1)
