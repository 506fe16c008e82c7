-- When the text tells of no change.
use Rattle.std.proofs.Common.{◌≡◌, ◌⊎◌, ℕ, ◌<◌, ◌^◌, Bool, true, false, cond, List, [], ◌∷◌, ◌++◌, length, filter, refl, sym, ap, ap₂, ◌∙◌, subst, arith, inl, inr, append_assoc}
use Rattle.std.specs.Prelude.{◌||◌, codes}
use Rattle.std.specs.Fmt.{decimal}
use Rattle.std.specs.List.{count_by, list_any}
use Rattle.std.proofs.lemmas.Bool.{true≢false}
use Rattle.std.proofs.lemmas.Fmt.{decimal_injective}
use Rattle.std.proofs.lemmas.List.{append_cancel_left, append_cancel_right, nil_from_length}
use Rattle.std.proofs.lemmas.List.Sums.{count_by-le-length, length-filter}
use Rattle.net_base.specs.Addresses.{is_figure}
use Rattle.net_base.specs.Network.{PlainNet}
use Rattle.net_base.specs.Prefixes.{PlainPrefix}
use Rattle.policy_base.specs.Policies.{PlainPolicy}
use Rattle.text_parts.specs.Ends.{stops}
use Rattle.comparison.specs.Changed.{is_changed}
use Rattle.comparison.specs.declared.values.ComparedPair.{ComparedPair}
use Rattle.compare_report.specs.Changes.{change_lines, compare_text, group_lines, head_line, last_line, lines_at, lines_from}
use Rattle.compare_report.specs.Groups.{is_with, originated_prefixes}

-- ---- none is counted

module _ {A : Type 0} (p : A → Bool) where
  none_left : (xs : List A) → filter p xs ≡ [] → list_any p xs ≡ false
  none_left [] none = refl
  none_left (x ∷ xs) none = go (none_left xs) (p x) refl none
    where
      go : (filter p xs ≡ [] → list_any p xs ≡ false) → (b : Bool) → p x ≡ b → cond b (x ∷ filter p xs) (filter p xs) ≡ [] → list_any p (x ∷ xs) ≡ false
      go later true is some = absurd (let found : x ∷ filter p xs ≡ [] = some in cc)
      go later false is rest = ap (λ b. b || list_any p xs) is ∙ later rest

  none_counted : (xs : List A) → count_by p xs ≡ 0 → list_any p xs ≡ false
  none_counted xs h = none_left xs (nil_from_length (filter p xs) (length-filter p xs ∙ h))

  both_none : (a b : Bool) → (a || b) ≡ false → (a ≡ false) × (b ≡ false)
  both_none true b h = absurd (true≢false h)
  both_none false b h = (refl, h)

  none_kept : (q : A → Bool) (xs : List A) → list_any p xs ≡ false → list_any p (filter q xs) ≡ false
  none_kept q [] h = refl
  none_kept q (x ∷ xs) h =
      let parts = both_none (p x) (list_any p xs) h in
      go parts.0 (none_kept q xs parts.1) (q x)
    where
      go : p x ≡ false → list_any p (filter q xs) ≡ false → (b : Bool) → list_any p (cond b (x ∷ filter q xs) (filter q xs)) ≡ false
      go here later true = ap (λ b. b || list_any p (filter q xs)) here ∙ later
      go here later false = later

module _ (net : PlainNet) (order : List PlainPrefix) where
  -- ---- so nothing is told

  silent_at : (before : List ComparedPair) (x : ComparedPair) (xs : List ComparedPair) → list_any (is_changed net) (x ∷ xs) ≡ false → lines_at net order before x xs ≡ []
  unfolding lines_at change_lines
  silent_at before x xs h = go (list_any (is_with x) before)
    where
      parts : (is_changed net x ≡ false) × (list_any (is_changed net) xs ≡ false)
      parts = both_none (is_changed net) (is_changed net x) (list_any (is_changed net) xs) h

      group : List ComparedPair
      group = x ∷ filter (is_with x) xs

      none : list_any (is_changed net) group ≡ false
      none = ap (λ b. b || list_any (is_changed net) (filter (is_with x) xs)) parts.0 ∙ none_kept (is_changed net) (is_with x) xs parts.1

      go : (b : Bool) → cond b [] (change_lines net order group x) ≡ []
      go true = refl
      go false = ap (λ b. cond b (group_lines net order group x) []) none

  silent : (before xs : List ComparedPair) → list_any (is_changed net) xs ≡ false → lines_from net order before xs ≡ []
  silent before [] h = refl
  silent before (x ∷ xs) h =
      ap₂ ◌++◌ (silent_at before x xs h)
      (silent (before ++ x ∷ []) xs (both_none (is_changed net) (is_changed net x) (list_any (is_changed net) xs) h).1)

  -- ---- a change is told by a word of its own

  -- nothing, or a text that begins like `change`
  abbrev IsOpening : List ℕ → Type 0
  IsOpening t = (t ≡ []) ⊎ ((rest : List ℕ) × (t ≡ 99 ∷ 104 ∷ rest))

  opening_at : (before : List ComparedPair) (x : ComparedPair) (xs : List ComparedPair) → IsOpening (lines_at net order before x xs)
  unfolding lines_at change_lines head_line
  opening_at before x xs = go (list_any (is_with x) before) (list_any (is_changed net) (x ∷ filter (is_with x) xs))
    where
      go : (a b : Bool) → IsOpening (cond a [] (cond b (group_lines net order (x ∷ filter (is_with x) xs) x) []))
      go true b = inl refl
      go false true = inr (_, refl)
      go false false = inl refl

  joined : (t more : List ℕ) → IsOpening t → IsOpening more → IsOpening (t ++ more)
  joined t more (inl none) later = subst (λ s. IsOpening (s ++ more)) (sym none) later
  joined t more (inr some) later = inr (some.0 ++ more, ap (λ s. s ++ more) some.1)

  opening : (before xs : List ComparedPair) → IsOpening (lines_from net order before xs)
  opening before [] = inl refl
  opening before (x ∷ xs) = joined (lines_at net order before x xs) (lines_from net order (before ++ x ∷ []) xs) (opening_at before x xs) (opening (before ++ x ∷ []) xs)

-- ---- the last line

abbrev CutsNumbers : Type 0
CutsNumbers = (m n : ℕ) (rest more : List ℕ) → m < 2 ^ 64 → n < 2 ^ 64 → stops is_figure rest ≡ true → stops is_figure more ≡ true
    → decimal m ++ rest ≡ decimal n ++ more → (m ≡ n) × (rest ≡ more)

flat : (a b c d e : List ℕ) → a ++ b ++ c ++ d ++ e ≡ a ++ (b ++ (c ++ (d ++ e)))
flat a b c d e = append_assoc (a ++ b ++ c) d e ∙ append_assoc (a ++ b) c (d ++ e) ∙ append_assoc a b (c ++ (d ++ e))

counted : CutsNumbers → (m n k l : ℕ) → m < 2 ^ 64 → n < 2 ^ 64 → k < 2 ^ 64 → l < 2 ^ 64 → last_line m k ≡ last_line n l → k ≡ l
unfolding last_line
counted cuts m n k l m_fits n_fits k_fits l_fits same =
    let one = codes " changed " ++ (decimal k ++ codes "\n") in
    let two = codes " changed " ++ (decimal l ++ codes "\n") in
    let whole = sym (flat (codes "cases ") (decimal m) (codes " changed ") (decimal k) (codes "\n")) ∙ same
    ∙ flat (codes "cases ") (decimal n) (codes " changed ") (decimal l) (codes "\n") in
    let numbers = append_cancel_left (codes "cases ") (decimal m ++ one) (decimal n ++ two) whole in
    let rest = (cuts m n one two m_fits n_fits refl refl numbers).1 in
    let counts = append_cancel_left (codes " changed ") (decimal k ++ codes "\n") (decimal l ++ codes "\n") rest in
    decimal_injective k l k_fits l_fits (append_cancel_right (decimal k) (decimal l) (codes "\n") counts)

not_opening : (n : ℕ) (rest more : List ℕ) → (99 ∷ 104 ∷ rest) ++ more ≡ last_line n 0 → ⊥
unfolding last_line
not_opening n rest more same =
    let whole : 99 ∷ 104 ∷ (rest ++ more) ≡ 99 ∷ 97 ∷ (codes "ses " ++ decimal n ++ codes " changed " ++ decimal 0 ++ codes "\n") = same in
    let second : 104 ∷ (rest ++ more) ≡ 97 ∷ (codes "ses " ++ decimal n ++ codes " changed " ++ decimal 0 ++ codes "\n") = cc in
    let letter : ◌≡◌ {A = ℕ} 104 97 = cc in
    omega (arith, letter)

module _ (cuts : CutsNumbers) (net : PlainNet) (old new : PlainPolicy) (xs : List ComparedPair) where
  pub unchanged_where_told : (n : ℕ) → length xs < 2 ^ 64 → n < 2 ^ 64 → compare_text net old new xs ≡ last_line n 0 → count_by (is_changed net) xs ≡ 0
  unchanged_where_told n fits n_fits same = by_opening (opening net (originated_prefixes old new) [] xs)
    where
      count : ℕ
      count = count_by (is_changed net) xs

      by_opening : IsOpening net (originated_prefixes old new) (lines_from net (originated_prefixes old new) [] xs) → count ≡ 0
      by_opening (inl none) =
          counted cuts (length xs) n count 0 fits n_fits (omega (arith, fits, count_by-le-length (is_changed net) xs)) (omega arith)
          (ap (λ t. t ++ last_line (length xs) count) (sym none) ∙ same)
      by_opening (inr some) = absurd (not_opening n some.0 (last_line (length xs) count) (ap (λ t. t ++ last_line (length xs) count) (sym some.1) ∙ same))

pub told_where_unchanged : (net : PlainNet) (old new : PlainPolicy) (xs : List ComparedPair) → count_by (is_changed net) xs ≡ 0 → compare_text net old new xs ≡ last_line (length xs) 0
told_where_unchanged net old new xs none =
    ap₂ (λ (t : List ℕ) (n : ℕ). t ++ last_line (length xs) n) (silent net (originated_prefixes old new) [] xs (none_counted (is_changed net) xs none)) none
