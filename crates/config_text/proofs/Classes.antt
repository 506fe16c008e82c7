-- The lines of the classes at the front of a text are read in one way only.
use Rattle.std.proofs.Common.{◌≡◌, ℕ, ◌+◌, List, [], ◌∷◌, ◌++◌, true, false, refl, sym, ap, ◌∙◌, append_assoc}
use Rattle.std.specs.Prelude.{◌≢◌, codes}
use Rattle.std.specs.List.{flat_map, AllByRecursion}
use Rattle.std.specs.Fmt.{decimal}
use Rattle.std.proofs.lemmas.List.{append_cancel_left}
use Rattle.net_base.specs.Prefixes.{PlainPattern, IsPattern}
use Rattle.text_parts.specs.Texts.{pattern_text}
use Rattle.config_lines.specs.declared.edition.Edition.{Edition}
use Rattle.config_text.specs.ConfigText.{class_line, class_lines}
use Rattle.config_lines.specs.LineText.{next_pattern, joined_patterns}
use Rattle.text_parts.proofs.Words.{after}
use Rattle.text_parts.specs.Ends.{ends_pattern}
use Rattle.text_parts.proofs.Pieces.{pattern_cut}
use Rattle.config_text.proofs.Repeats.{list_cut, begins}

-- ---- patterns

one_pattern : (t u : PlainPattern) (rest more : List ℕ) → IsPattern t → IsPattern u → ends_pattern rest ≡ true → ends_pattern more ≡ true
    → next_pattern t ++ rest ≡ next_pattern u ++ more → (t ≡ u) × (rest ≡ more)
one_pattern t u rest more ht hu hr hm e = pattern_cut t u rest more ht hu hr hm (append_cancel_left (codes ", ") (pattern_text t ++ rest) (pattern_text u ++ more) e)

more_patterns : (ts us : List PlainPattern) (rest more : List ℕ) → AllByRecursion IsPattern ts → AllByRecursion IsPattern us
    → flat_map next_pattern ts ++ 10 ∷ rest ≡ flat_map next_pattern us ++ 10 ∷ more → (ts ≡ us) × (10 ∷ rest ≡ 10 ∷ more)
more_patterns ts us rest more ht hu e =
    list_cut PlainPattern next_pattern IsPattern (begins 44) ends_pattern (λ t rest. refl) (λ t rest. refl) one_pattern ts us (10 ∷ rest) (10 ∷ more) ht hu refl refl refl refl e

pattern_follows : (ts : List PlainPattern) (rest : List ℕ) → ends_pattern (flat_map next_pattern ts ++ 10 ∷ rest) ≡ true
pattern_follows [] rest = refl
pattern_follows (t ∷ ts) rest = refl

-- the patterns of a class, and a line feed
patterns_cut : (ts us : List PlainPattern) (rest more : List ℕ) → ts ≢ [] → us ≢ [] → AllByRecursion IsPattern ts → AllByRecursion IsPattern us
    → joined_patterns ts ++ 10 ∷ rest ≡ joined_patterns us ++ 10 ∷ more → (ts ≡ us) × (rest ≡ more)
patterns_cut [] us rest more st su ht hu e = absurd (st refl)
patterns_cut (t ∷ ts) [] rest more st su ht hu e = absurd (su refl)
patterns_cut (t ∷ ts) (u ∷ us) rest more st su ht hu e =
    let parts : pattern_text t ++ (flat_map next_pattern ts ++ 10 ∷ rest) ≡ pattern_text u ++ (flat_map next_pattern us ++ 10 ∷ more) =
    sym (append_assoc (pattern_text t) (flat_map next_pattern ts) (10 ∷ rest)) ∙ e ∙ append_assoc (pattern_text u) (flat_map next_pattern us) (10 ∷ more) in
    let head = pattern_cut t u (flat_map next_pattern ts ++ 10 ∷ rest) (flat_map next_pattern us ++ 10 ∷ more) ht.0 hu.0 (pattern_follows ts rest) (pattern_follows us more) parts in
    let tail = more_patterns ts us rest more ht.1 hu.1 head.1 in
    (cc (head.0, tail.0), after 10 rest more tail.1)

-- ---- classes: the number says nothing, it's the place

class_parts : (edition : Edition) (k : ℕ) (ts : List PlainPattern) (rest : List ℕ) → class_line edition k ts ++ rest ≡ codes "class " ++ (decimal k ++ (32 ∷ (joined_patterns ts ++ (10 ∷ rest))))
class_parts edition k ts rest = parts_by (decimal k) (joined_patterns ts)
  where
    parts_by : (a b : List ℕ) → (codes "class " ++ a ++ codes " " ++ b ++ codes "\n") ++ rest ≡ codes "class " ++ (a ++ (32 ∷ (b ++ (10 ∷ rest))))
    parts_by a b = simp append_assoc refl

-- a class has patterns, all of them lawful
pub record IsFullClass (ts : List PlainPattern) : Type 0 where
  pub some : ts ≢ []
  pub all : AllByRecursion IsPattern ts

pub classes_cut : (edition : Edition) (k : ℕ) (cs ds : List (List PlainPattern)) (rest more : List ℕ) → AllByRecursion IsFullClass cs → AllByRecursion IsFullClass ds
    → begins 99 rest ≡ false → begins 99 more ≡ false → class_lines edition k cs ++ rest ≡ class_lines edition k ds ++ more → (cs ≡ ds) × (rest ≡ more)
classes_cut edition k [] [] rest more hc hd sr sm e = (refl, e)
classes_cut edition k [] (d ∷ ds) rest more hc hd sr sm e = let clash : false ≡ true = sym sr ∙ ap (begins 99) e in absurd (cc)
classes_cut edition k (c ∷ cs) [] rest more hc hd sr sm e = let clash : false ≡ true = sym sm ∙ ap (begins 99) (sym e) in absurd (cc)
classes_cut edition k (c ∷ cs) (d ∷ ds) rest more hc hd sr sm e =
    let parts = sym (class_parts edition k c (class_lines edition (k + 1) cs ++ rest))
    ∙ sym (append_assoc (class_line edition k c) (class_lines edition (k + 1) cs) rest) ∙ e
    ∙ append_assoc (class_line edition k d) (class_lines edition (k + 1) ds) more
    ∙ class_parts edition k d (class_lines edition (k + 1) ds ++ more) in
    let numbered = append_cancel_left (codes "class ") _ _ parts in
    let spaced = append_cancel_left (decimal k) _ _ numbered in
    let head = patterns_cut c d (class_lines edition (k + 1) cs ++ rest) (class_lines edition (k + 1) ds ++ more) hc.0.some hd.0.some hc.0.all hd.0.all (after 32 _ _ spaced) in
    let tail = classes_cut edition (k + 1) cs ds rest more hc.1 hd.1 sr sm head.1 in
    (cc (head.0, tail.0), tail.1)
