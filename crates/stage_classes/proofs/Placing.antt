-- The first cell with a prefix is that of its two classes.
use Rattle.std.proofs.Common.{◌≡◌, ◌≢◌, ℕ, ◌+◌, Bool, true, false, List, [], ◌∷◌, ◌++◌, length, Option, Some, None, refl, sym, ap, ap₂, ◌∙◌, append-nil}
use Rattle.std.specs.Prelude.{unwrap_or, if◌then◌else◌}
use Rattle.std.specs.List.{AllByRecursion}
use Rattle.std.specs.Option.{option_map}
use Rattle.std.proofs.lemmas.Bool.{false≢true}
use Rattle.std.proofs.lemmas.List.{append_assoc, length-append}
use Rattle.std.proofs.lemmas.List.Folds.{list_any-append}
use Rattle.list_law.proofs.Each.{AllByRecursion-append}
use Rattle.net_base.specs.Prefixes.{PlainPattern, PlainPrefix, IsPrefix}
use Rattle.policy_base.specs.Governing.{some_contains}
use Rattle.config_base.specs.Lines.{class_from}
use Rattle.stage_classes.specs.declared.cell.Cell.{Cell}
use Rattle.stage_classes.specs.Cells.{cell_if, common, everything, row, rows, with_classes}
use Rattle.stage_classes.specs.Laws.{CellsArePairs, CellsHavePatterns, cell_of, pair_of, paired}
use Rattle.stage_classes.proofs.Shared.{IsNowhere, all_common, some_everything, of_common}

-- ---- each cell has a pattern

abbrev HasPattern : Cell → Type 0
HasPattern c = c.patterns ≢ []

if_pattern : (first second : ℕ) (qs : List PlainPattern) → AllByRecursion HasPattern (cell_if first second qs)
if_pattern first second [] = tt
if_pattern first second (q ∷ qs) = (λ none. absurd cc, tt)

classes_patterns : (first : ℕ) (class : List PlainPattern) (before seen bs : List (List PlainPattern)) → AllByRecursion HasPattern (with_classes first class before seen bs)
classes_patterns first class before seen [] = tt
classes_patterns first class before seen (b ∷ bs) =
    AllByRecursion-append HasPattern (cell_if first (length seen + 1) (common before seen class b)) _ (if_pattern first _ _) (classes_patterns first class before (seen ++ b ∷ []) bs)

rows_patterns : (before new xs : List (List PlainPattern)) → AllByRecursion HasPattern (rows before new xs)
rows_patterns before new [] = tt
rows_patterns before new (a ∷ xs) =
    AllByRecursion-append HasPattern (row (length before + 1) a before new) _
    (AllByRecursion-append HasPattern (with_classes (length before + 1) a before [] new) _ (classes_patterns _ a before [] new) (if_pattern _ _ _))
    (rows_patterns (before ++ a ∷ []) new xs)

pub cells_have_patterns : CellsHavePatterns
cells_have_patterns old new = AllByRecursion-append HasPattern (rows [] new old) _ (rows_patterns [] new old) (classes_patterns (length old + 1) (everything ∷ []) old [] new)

-- ---- the first cell with a prefix

module _ (p : PlainPrefix) (lawful : IsPrefix p) where
  -- the numbers of the first cell with the prefix
  abbrev pair_in : List Cell → Option (ℕ × ℕ)
  pair_in cs = option_map (λ (c : Cell). (c.first, c.second)) (cell_of cs p)

  of_cell : (c : Cell) (rest : List Cell) → pair_in (c ∷ rest) ≡ (if some_contains c.patterns p then Some (c.first, c.second) else pair_in rest)
  of_cell c rest = by (some_contains c.patterns p) refl
    where
      by : (b : Bool) → some_contains c.patterns p ≡ b → pair_in (c ∷ rest) ≡ (if some_contains c.patterns p then Some (c.first, c.second) else pair_in rest)
      by true e = rw e refl
      by false e = rw e refl

  step : (first second : ℕ) (qs : List PlainPattern) (rest : List Cell) → pair_in (cell_if first second qs ++ rest) ≡ (if some_contains qs p then Some (first, second) else pair_in rest)
  step first second [] rest = refl
  step first second (q ∷ qs) rest = of_cell (record { first = first; second = second; patterns = q ∷ qs }) rest

  nowhere_more : (classes : List (List PlainPattern)) (c : List PlainPattern) → IsNowhere p classes → some_contains c p ≡ false → IsNowhere p (classes ++ c ∷ [])
  nowhere_more classes c none off = list_any-append (λ patterns. some_contains patterns p) classes (c ∷ []) ∙ rw (none, off) refl

  nowhere_all : (classes : List (List PlainPattern)) (k : ℕ) → class_from classes p k ≡ None → IsNowhere p classes
  nowhere_all [] k h = refl
  nowhere_all (c ∷ cs) k h = by (some_contains c p) refl h (nowhere_all cs (k + 1))
    where
      by : (b : Bool) → some_contains c p ≡ b → class_from (c ∷ cs) p k ≡ None → (class_from cs p (k + 1) ≡ None → IsNowhere p cs) → IsNowhere p (c ∷ cs)
      by true e none later = absurd (let clash : Some k ≡ None = sym (rw e refl) ∙ none in cc)
      by false e none later = rw e (later (rw e at none))

  -- ---- a class that doesn't have it

  off_classes : (first : ℕ) (class : List PlainPattern) (before seen bs : List (List PlainPattern)) (rest : List Cell) → some_contains class p ≡ false
      → pair_in (with_classes first class before seen bs ++ rest) ≡ pair_in rest
  off_classes first class before seen [] rest off = refl
  off_classes first class before seen (b ∷ bs) rest off =
      ap pair_in (append_assoc (cell_if first (length seen + 1) (common before seen class b)) (with_classes first class before (seen ++ b ∷ []) bs) rest)
      ∙ step first (length seen + 1) (common before seen class b) (with_classes first class before (seen ++ b ∷ []) bs ++ rest)
      ∙ ap (λ x. if x then Some (first, length seen + 1) else pair_in (with_classes first class before (seen ++ b ∷ []) bs ++ rest)) (off_common b)
      ∙ off_classes first class before (seen ++ b ∷ []) bs rest off
    where
      off_common : (b : List PlainPattern) → some_contains (common before seen class b) p ≡ false
      off_common b = by (some_contains (common before seen class b) p) refl
        where
          by : (x : Bool) → some_contains (common before seen class b) p ≡ x → x ≡ false
          by true e = absurd (false≢true (sym off ∙ (of_common p lawful before seen class b e).0))
          by false e = refl

  off_row : (first : ℕ) (class : List PlainPattern) (before new : List (List PlainPattern)) (rest : List Cell) → some_contains class p ≡ false
      → pair_in (row first class before new ++ rest) ≡ pair_in rest
  off_row first class before new rest off =
      ap pair_in (append_assoc (with_classes first class before [] new) (cell_if first (length new + 1) (common before new class (everything ∷ []))) rest)
      ∙ off_classes first class before [] new (cell_if first (length new + 1) (common before new class (everything ∷ [])) ++ rest) off
      ∙ step first (length new + 1) (common before new class (everything ∷ [])) rest
      ∙ ap (λ x. if x then Some (first, length new + 1) else pair_in rest) off_rest
    where
      off_rest : some_contains (common before new class (everything ∷ [])) p ≡ false
      off_rest = by (some_contains (common before new class (everything ∷ [])) p) refl
        where
          by : (x : Bool) → some_contains (common before new class (everything ∷ [])) p ≡ x → x ≡ false
          by true e = absurd (false≢true (sym off ∙ (of_common p lawful before new class (everything ∷ []) e).0))
          by false e = refl

  -- ---- a class that has it, where none before has

  -- the cell of the class that is found, or what the rest has
  abbrev found_at : ℕ → Option ℕ → Option (ℕ × ℕ) → Option (ℕ × ℕ)
  found_at first None rest = rest
  found_at first (Some second) rest = Some (first, second)

  on_classes : (first : ℕ) (class : List PlainPattern) (before seen bs : List (List PlainPattern)) (rest : List Cell) → some_contains class p ≡ true
      → IsNowhere p before → IsNowhere p seen → pair_in (with_classes first class before seen bs ++ rest) ≡ found_at first (class_from bs p (length seen + 1)) (pair_in rest)
  on_classes first class before seen [] rest on none_before none_seen = refl
  on_classes first class before seen (b ∷ bs) rest on none_before none_seen =
      ap pair_in (append_assoc (cell_if first (length seen + 1) (common before seen class b)) (with_classes first class before (seen ++ b ∷ []) bs) rest)
      ∙ step first (length seen + 1) (common before seen class b) (with_classes first class before (seen ++ b ∷ []) bs ++ rest)
      ∙ by (some_contains b p) refl (λ e. on_classes first class before (seen ++ b ∷ []) bs rest on none_before (nowhere_more seen b none_seen e))
    where
      next : length (seen ++ b ∷ []) + 1 ≡ length seen + 1 + 1
      next = ap (λ n. n + 1) (length-append seen (b ∷ []))

      off_common : some_contains b p ≡ false → some_contains (common before seen class b) p ≡ false
      off_common off = by (some_contains (common before seen class b) p) refl
        where
          by : (x : Bool) → some_contains (common before seen class b) p ≡ x → x ≡ false
          by true e = absurd (false≢true (sym off ∙ (of_common p lawful before seen class b e).1))
          by false e = refl

      by : (x : Bool) → some_contains b p ≡ x
          → (some_contains b p ≡ false → pair_in (with_classes first class before (seen ++ b ∷ []) bs ++ rest) ≡ found_at first (class_from bs p (length (seen ++ b ∷ []) + 1)) (pair_in rest))
          → (if some_contains (common before seen class b) p then Some (first, length seen + 1) else pair_in (with_classes first class before (seen ++ b ∷ []) bs ++ rest))
          ≡ found_at first (class_from (b ∷ bs) p (length seen + 1)) (pair_in rest)
      by true e later =
          ap (λ x. if x then Some (first, length seen + 1) else pair_in (with_classes first class before (seen ++ b ∷ []) bs ++ rest)) (all_common p lawful before seen none_before none_seen class b on e)
          ∙ sym (ap (λ x. found_at first (if x then Some (length seen + 1) else class_from bs p (length seen + 1 + 1)) (pair_in rest)) e)
      by false e later =
          ap (λ x. if x then Some (first, length seen + 1) else pair_in (with_classes first class before (seen ++ b ∷ []) bs ++ rest)) (off_common e)
          ∙ later e
          ∙ ap (λ k. found_at first (class_from bs p k) (pair_in rest)) next
          ∙ sym (ap (λ x. found_at first (if x then Some (length seen + 1) else class_from bs p (length seen + 1 + 1)) (pair_in rest)) e)

  on_row : (first : ℕ) (class : List PlainPattern) (before new : List (List PlainPattern)) (rest : List Cell) → some_contains class p ≡ true → IsNowhere p before
      → pair_in (row first class before new ++ rest) ≡ Some (first, unwrap_or (class_from new p 1) (length new + 1))
  on_row first class before new rest on none_before =
      ap pair_in (append_assoc (with_classes first class before [] new) (cell_if first (length new + 1) (common before new class (everything ∷ []))) rest)
      ∙ on_classes first class before [] new (cell_if first (length new + 1) (common before new class (everything ∷ [])) ++ rest) on none_before refl
      ∙ by (class_from new p 1) refl
    where
      by : (o : Option ℕ) → class_from new p 1 ≡ o
          → found_at first (class_from new p 1) (pair_in (cell_if first (length new + 1) (common before new class (everything ∷ [])) ++ rest)) ≡ Some (first, unwrap_or (class_from new p 1) (length new + 1))
      by None e =
          ap (λ o. found_at first o (pair_in (cell_if first (length new + 1) (common before new class (everything ∷ [])) ++ rest))) e
          ∙ step first (length new + 1) (common before new class (everything ∷ [])) rest
          ∙ ap (λ x. if x then Some (first, length new + 1) else pair_in rest)
          (all_common p lawful before new none_before (nowhere_all new 1 e) class (everything ∷ []) on (some_everything p lawful))
          ∙ sym (ap (λ o. Some (first, unwrap_or o (length new + 1))) e)
      by (Some second) e =
          ap (λ o. found_at first o (pair_in (cell_if first (length new + 1) (common before new class (everything ∷ [])) ++ rest))) e
          ∙ sym (ap (λ o. Some (first, unwrap_or o (length new + 1))) e)

  abbrev row_at : Option ℕ → Option (ℕ × ℕ) → List (List PlainPattern) → Option (ℕ × ℕ)
  row_at None rest new = rest
  row_at (Some first) rest new = Some (first, unwrap_or (class_from new p 1) (length new + 1))

  on_rows : (before new xs : List (List PlainPattern)) (rest : List Cell) → IsNowhere p before
      → pair_in (rows before new xs ++ rest) ≡ row_at (class_from xs p (length before + 1)) (pair_in rest) new
  on_rows before new [] rest none_before = refl
  on_rows before new (a ∷ xs) rest none_before =
      ap pair_in (append_assoc (row (length before + 1) a before new) (rows (before ++ a ∷ []) new xs) rest)
      ∙ by (some_contains a p) refl (λ e. on_rows (before ++ a ∷ []) new xs rest (nowhere_more before a none_before e))
    where
      next : length (before ++ a ∷ []) + 1 ≡ length before + 1 + 1
      next = ap (λ n. n + 1) (length-append before (a ∷ []))

      by : (x : Bool) → some_contains a p ≡ x
          → (some_contains a p ≡ false → pair_in (rows (before ++ a ∷ []) new xs ++ rest) ≡ row_at (class_from xs p (length (before ++ a ∷ []) + 1)) (pair_in rest) new)
          → pair_in (row (length before + 1) a before new ++ (rows (before ++ a ∷ []) new xs ++ rest)) ≡ row_at (class_from (a ∷ xs) p (length before + 1)) (pair_in rest) new
      by true e later =
          on_row (length before + 1) a before new (rows (before ++ a ∷ []) new xs ++ rest) e none_before
          ∙ sym (ap (λ x. row_at (if x then Some (length before + 1) else class_from xs p (length before + 1 + 1)) (pair_in rest) new) e)
      by false e later =
          off_row (length before + 1) a before new (rows (before ++ a ∷ []) new xs ++ rest) e
          ∙ later e
          ∙ ap (λ k. row_at (class_from xs p k) (pair_in rest) new) next
          ∙ sym (ap (λ x. row_at (if x then Some (length before + 1) else class_from xs p (length before + 1 + 1)) (pair_in rest) new) e)

pub cells_are_pairs : CellsArePairs
cells_are_pairs old new p lawful = on_rows p lawful [] new old (with_classes (length old + 1) (everything ∷ []) old [] new) refl ∙ by (class_from old p 1) refl
  where
    last : class_from old p 1 ≡ None → pair_in p lawful (with_classes (length old + 1) (everything ∷ []) old [] new) ≡ found_at p lawful (length old + 1) (class_from new p 1) None
    last none =
        ap (pair_in p lawful) (sym (append-nil (with_classes (length old + 1) (everything ∷ []) old [] new)))
        ∙ on_classes p lawful (length old + 1) (everything ∷ []) old [] new [] (some_everything p lawful) (nowhere_all p lawful old 1 none) refl

    pair_is : (o n : Option ℕ) → class_from old p 1 ≡ o → class_from new p 1 ≡ n → pair_of old new p ≡ paired o n (length old + 1) (length new + 1)
    pair_is o n e f = ap₂ (λ x y. paired x y (length old + 1) (length new + 1)) e f

    neither : (n : Option ℕ) → class_from old p 1 ≡ None → class_from new p 1 ≡ n → found_at p lawful (length old + 1) (class_from new p 1) None ≡ pair_of old new p
    neither None e f = ap (λ o. found_at p lawful (length old + 1) o None) f ∙ sym (pair_is None None e f)
    neither (Some second) e f = ap (λ o. found_at p lawful (length old + 1) o None) f ∙ sym (pair_is None (Some second) e f)

    of_old : (first : ℕ) (n : Option ℕ) → class_from old p 1 ≡ Some first → class_from new p 1 ≡ n → Some (first, unwrap_or (class_from new p 1) (length new + 1)) ≡ pair_of old new p
    of_old first None e f = ap (λ o. Some (first, unwrap_or o (length new + 1))) f ∙ sym (pair_is (Some first) None e f)
    of_old first (Some second) e f = ap (λ o. Some (first, unwrap_or o (length new + 1))) f ∙ sym (pair_is (Some first) (Some second) e f)

    by : (o : Option ℕ) → class_from old p 1 ≡ o → row_at p lawful (class_from old p 1) (pair_in p lawful (with_classes (length old + 1) (everything ∷ []) old [] new)) new ≡ pair_of old new p
    by None e =
        ap (λ o. row_at p lawful o (pair_in p lawful (with_classes (length old + 1) (everything ∷ []) old [] new)) new) e ∙ last e ∙ neither (class_from new p 1) e refl
    by (Some first) e =
        ap (λ o. row_at p lawful o (pair_in p lawful (with_classes (length old + 1) (everything ∷ []) old [] new)) new) e ∙ of_old first (class_from new p 1) e refl
