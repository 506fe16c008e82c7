-- Lines that end with their line feeds, one behind another.
use Rattle.std.proofs.Common.{◌≡◌, ℕ, List, [], ◌∷◌, ◌++◌, map, true, refl, sym, ◌∙◌, ap, append-nil, append_assoc}
use Rattle.std.specs.List.{join_with_byte, flat_map, AllByRecursion}
use Rattle.text_parts.proofs.PrefixTexts.{have_no}
use Rattle.config_lines.proofs.Solid.{split_word}
use Rattle.config_lines.specs.LineLines.{lines_of}

-- and nothing behind them
pub fed_lines : (ts : List (List ℕ)) → join_with_byte 10 (ts ++ [] ∷ []) ≡ flat_map (λ (t : List ℕ). t ++ 10 ∷ []) ts
fed_lines [] = refl
fed_lines (t ∷ []) = sym (append-nil (t ++ 10 ∷ []))
fed_lines (t ∷ u ∷ ts) = ap (λ (x : List ℕ). t ++ (10 ∷ x)) (fed_lines (u ∷ ts)) ∙ sym (append_assoc t (10 ∷ []) (flat_map (λ (t : List ℕ). t ++ 10 ∷ []) (u ∷ ts)))

pub join_front : (w v : List ℕ) (ts : List (List ℕ)) → join_with_byte 10 (w ∷ (ts ++ v ∷ [])) ≡ w ++ (10 ∷ join_with_byte 10 (ts ++ v ∷ []))
join_front w v [] = refl
join_front w v (t ∷ ts) = refl

module _ {A : Type 0} (text : A → List ℕ) where
  pub fed_texts : (ls : List A) → flat_map (λ l. text l ++ 10 ∷ []) ls ≡ flat_map (λ (t : List ℕ). t ++ 10 ∷ []) (map text ls)
  fed_texts [] = refl
  fed_texts (l ∷ ls) = ap (λ (x : List ℕ). (text l ++ 10 ∷ []) ++ x) (fed_texts ls)

  -- a text whose lines have no line feed is cut into them
  pub cut_lines : (first : List ℕ) (ls : List A) → have_no 10 first ≡ true → AllByRecursion (λ l. have_no 10 (text l) ≡ true) ls
      → lines_of (first ++ (10 ∷ flat_map (λ l. text l ++ 10 ∷ []) ls)) ≡ first ∷ (map text ls ++ [] ∷ [])
  cut_lines first [] none all = split_word 10 first [] none
  cut_lines first (l ∷ ls) none all =
      split_word 10 first ((text l ++ 10 ∷ []) ++ flat_map (λ l. text l ++ 10 ∷ []) ls) none
      ∙ ap (λ (ps : List (List ℕ)). first ∷ ps) (ap lines_of (append_assoc (text l) (10 ∷ []) (flat_map (λ l. text l ++ 10 ∷ []) ls)) ∙ cut_lines (text l) ls all.0 all.1)
