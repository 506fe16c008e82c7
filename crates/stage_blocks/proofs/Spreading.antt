-- The lines of a block in the cells of a stage.
use Rattle.std.proofs.Common.{◌≡◌, ℕ, zero, suc, ◌+◌, ◌<◌, ◌≤◌, ◌^◌, Bool, true, false, List, [], ◌∷◌, length, map, filter, Option, Some, None, IsTrue, inl, inr, refl, sym, ap, ◌∙◌, arith}
use Rattle.std.specs.Prelude.{◌&&◌, ◌==◌, option_map, slice_get, if◌then◌else◌}
use Rattle.std.specs.List.{AllByRecursion, find}
use Rattle.std.specs.Option.{option_or}
use Rattle.std.proofs.lemmas.Bool.{cases_Bool, eq-eqb, eqb-true}
use Rattle.std.proofs.lemmas.List.Folds.{find-append}
use Rattle.list_law.proofs.Each.{AllByRecursion-append, AllByRecursion-filter, AllByRecursion-weaker}
use Rattle.list_law.proofs.Tests.{find-same}
use Rattle.net_base.specs.declared.numbers.Tag.{Tag}
use Rattle.net_base.specs.Numbers.{is_tag}
use Rattle.config_base.specs.declared.config.Import.{Import}
use Rattle.config_base.specs.declared.config.Export.{Export}
use Rattle.config_base.specs.Configs.{Ascend, HasTag, IsBelow, IsExport, IsImport, Key, tag_key}
use Rattle.config_base.specs.Lines.{same_tag}
use Rattle.stage_classes.specs.declared.cell.Cell.{Cell}
use Rattle.stage_blocks.specs.Laws.{CellsFind, CellsFindNew, CellsFindOld, ExportsKeep, ExportsSpreadRight, ImportsKeep, ImportsSpreadRight, SpreadsRight, key_of, line_of}
use Rattle.stage_blocks.specs.Merging.{in_cell, merged, of_class, put_export, put_import, spread}
use Rattle.stage_blocks.proofs.Merged.{TagsAscend, each-merged, find-merged, has, merged-none}
use Rattle.stage_blocks.proofs.Ordered.{Ascend-append, Ascend-cons, Ascend-merged, Ascend-of_class, each_below}

-- ---- lists

pub find-map : {A B : Type 0} (p : B → Bool) (f : A → B) (xs : List A) → find p (map f xs) ≡ option_map f (find (λ x. p (f x)) xs)
find-map p f [] = refl
find-map p f (x ∷ xs) = by (p (f x)) refl (find-map p f xs)
  where
    by : (b : Bool) → p (f x) ≡ b → find p (map f xs) ≡ option_map f (find (λ x. p (f x)) xs) → find p (map f (x ∷ xs)) ≡ option_map f (find (λ x. p (f x)) (x ∷ xs))
    by true e later = rw e refl
    by false e later = rw e later

pub find-filter : {A : Type 0} (p q : A → Bool) (xs : List A) → find q (filter p xs) ≡ find (λ x. p x && q x) xs
find-filter p q [] = refl
find-filter p q (x ∷ xs) = by (p x) refl (find-filter p q xs)
  where
    by : (b : Bool) → p x ≡ b → find q (filter p xs) ≡ find (λ x. p x && q x) xs → find q (filter p (x ∷ xs)) ≡ find (λ x. p x && q x) (x ∷ xs)
    by true e later = rw e (ap (λ o. if q x then Some x else o) later)
    by false e later = rw e later

pub none_passes : {A : Type 0} (P : A → Type 0) (p : A → Bool) → ((x : A) → P x → p x ≡ false) → (xs : List A) → AllByRecursion P xs → find p xs ≡ None
none_passes P p off [] all = refl
none_passes P p off (x ∷ xs) all = rw (off x all.0) (none_passes P p off xs all.1)

pub or_none : {A : Type 0} (o : Option A) → option_or o None ≡ o
or_none None = refl
or_none (Some x) = refl

pub other_number : (m n : ℕ) → n < m → (m == n) ≡ false
other_number m n less = elim (cases_Bool (m == n)) [
  | inl same ↦ absurd (let e = eqb-true m n same in omega (arith, less, e))
  | inr other ↦ other
]

-- A line in another class has this class and its own tag.
pub record IsPut {L : Type 0} (tag_of : L → Tag) (class_of : L → ℕ) (put : ℕ → L → L) : Type 0 where
  pub class : (n : ℕ) (l : L) → class_of (put n l) ≡ n
  pub tag : (n : ℕ) (l : L) → tag_of (put n l) ≡ tag_of l

module _ {L : Type 0} (tag_of : L → Tag) (class_of : L → ℕ) (put : ℕ → L → L) (is : IsPut tag_of class_of put) where
  -- ---- what holds of each line

  put_each : (P : L → Type 0) → ((n : ℕ) (l : L) → P l → P (put n l)) → (k : ℕ) (ls : List L) → AllByRecursion P ls → AllByRecursion (λ l. P l × (class_of l ≡ k)) (map (put k) ls)
  put_each P moves k [] all = tt
  put_each P moves k (l ∷ ls) all = ((moves k l all.0, is.class k l), put_each P moves k ls all.1)

  cell_each : (P : L → Type 0) → ((n : ℕ) (l : L) → P l → P (put n l)) → (k : ℕ) (c : Cell) (old new : List L) → AllByRecursion P old → AllByRecursion P new
      → AllByRecursion (λ l. P l × (class_of l ≡ k)) (in_cell tag_of class_of put k c old new)
  cell_each P moves k c old new all all' =
      put_each P moves k (merged tag_of (of_class tag_of class_of put c.first old) (of_class tag_of class_of put c.second new))
      (each-merged tag_of P (of_class tag_of class_of put c.first old) (of_class tag_of class_of put c.second new)
      (AllByRecursion-filter P (λ l. class_of l == c.first) old all) (AllByRecursion-filter P (λ l. class_of l == c.second) new all'))

  pub spread_each : (P : L → Type 0) → ((n : ℕ) (l : L) → P l → P (put n l)) → (k : ℕ) (cs : List Cell) (old new : List L) → AllByRecursion P old → AllByRecursion P new
      → AllByRecursion (λ l. P l × (k ≤ class_of l) × (class_of l < k + length cs)) (spread tag_of class_of put k cs old new)
  spread_each P moves k [] old new all all' = tt
  spread_each P moves k (c ∷ cs) old new all all' =
      AllByRecursion-append (λ l. P l × (k ≤ class_of l) × (class_of l < k + suc (length cs))) (in_cell tag_of class_of put k c old new) (spread tag_of class_of put (k + 1) cs old new)
      (AllByRecursion-weaker (λ l. P l × (class_of l ≡ k)) (λ l. P l × (k ≤ class_of l) × (class_of l < k + suc (length cs))) (in_cell tag_of class_of put k c old new)
      (λ l h. (h.0, omega (arith, h.1), omega (arith, h.1))) (cell_each P moves k c old new all all'))
      (AllByRecursion-weaker (λ l. P l × (k + 1 ≤ class_of l) × (class_of l < k + 1 + length cs)) (λ l. P l × (k ≤ class_of l) × (class_of l < k + suc (length cs)))
      (spread tag_of class_of put (k + 1) cs old new) (λ l h. (h.0, omega (arith, h.1), omega (arith, h.2))) (spread_each P moves (k + 1) cs old new all all'))

  -- of any lines
  abbrev Any : L → Type 0
  Any l = Unit {0}

  any_each : (ls : List L) → AllByRecursion Any ls
  any_each [] = tt
  any_each (l ∷ ls) = (tt, any_each ls)

  classes_of_cell : (k : ℕ) (c : Cell) (old new : List L) → AllByRecursion (λ l. class_of l ≡ k) (in_cell tag_of class_of put k c old new)
  classes_of_cell k c old new =
      AllByRecursion-weaker (λ l. Any l × (class_of l ≡ k)) (λ l. class_of l ≡ k) (in_cell tag_of class_of put k c old new) (λ l h. h.1) (cell_each Any (λ n l h. tt) k c old new (any_each old) (any_each new))

  classes_from : (k : ℕ) (cs : List Cell) (old new : List L) → AllByRecursion (λ l. k ≤ class_of l) (spread tag_of class_of put k cs old new)
  classes_from k cs old new =
      AllByRecursion-weaker (λ l. Any l × (k ≤ class_of l) × (class_of l < k + length cs)) (λ l. k ≤ class_of l) (spread tag_of class_of put k cs old new) (λ l h. h.1)
      (spread_each Any (λ n l h. tt) k cs old new (any_each old) (any_each new))

  -- ---- what is found

  module _ (test : L → Bool) (blind : (n : ℕ) (l : L) → test (put n l) ≡ test l) (old new : List L) where
    abbrev lines_of : Cell → List L
    lines_of c = merged tag_of (of_class tag_of class_of put c.first old) (of_class tag_of class_of put c.second new)

    found_here : (k n : ℕ) (c : Cell) → n ≡ k → find (λ l. class_of l == n && test l) (in_cell tag_of class_of put k c old new) ≡ option_map (put n) (find test (lines_of c))
    found_here k n c same =
        find-map (λ l. class_of l == n && test l) (put k) (lines_of c)
        ∙ ap (option_map (put k)) (find-same (λ l. class_of (put k l) == n && test (put k l)) test passes (lines_of c))
        ∙ ap (λ m. option_map (put m) (find test (lines_of c))) (sym same)
      where
        passes : (l : L) → (class_of (put k l) == n && test (put k l)) ≡ test l
        passes l = rw (eq-eqb (class_of (put k l)) n (is.class k l ∙ sym same), blind k l) refl

    found_at : (cs : List Cell) (k i n : ℕ) (c : Cell) → slice_get cs i ≡ Some c → n ≡ k + i
        → find (λ l. class_of l == n && test l) (spread tag_of class_of put k cs old new) ≡ option_map (put n) (find test (lines_of c))
    found_at [] k i n c at is_n = absurd cc
    found_at (d ∷ cs) k zero n c at is_n =
        let same : d ≡ c = cc in
        find-append (λ l. class_of l == n && test l) (in_cell tag_of class_of put k d old new) (spread tag_of class_of put (k + 1) cs old new)
        ∙ ap (option_or (find (λ l. class_of l == n && test l) (in_cell tag_of class_of put k d old new)))
        (none_passes (λ l. k + 1 ≤ class_of l) (λ l. class_of l == n && test l) (λ l low. rw (other_number (class_of l) n (omega (arith, low, is_n))) refl)
        (spread tag_of class_of put (k + 1) cs old new) (classes_from (k + 1) cs old new))
        ∙ or_none (find (λ l. class_of l == n && test l) (in_cell tag_of class_of put k d old new))
        ∙ found_here k n d (omega (arith, is_n))
        ∙ ap (λ x. option_map (put n) (find test (lines_of x))) same
    found_at (d ∷ cs) k (suc i) n c at is_n =
        find-append (λ l. class_of l == n && test l) (in_cell tag_of class_of put k d old new) (spread tag_of class_of put (k + 1) cs old new)
        ∙ ap (λ o. option_or o (find (λ l. class_of l == n && test l) (spread tag_of class_of put (k + 1) cs old new)))
        (none_passes (λ l. class_of l ≡ k) (λ l. class_of l == n && test l) (λ l here. rw (before (class_of l) here) refl) (in_cell tag_of class_of put k d old new) (classes_of_cell k d old new))
        ∙ found_at cs (k + 1) i n c at (omega (arith, is_n))
      where
        before : (m : ℕ) → m ≡ k → (m == n) ≡ false
        before m here = elim (cases_Bool (m == n)) [
          | inl same ↦ absurd (let e = eqb-true m n same in omega (arith, here, is_n, e))
          | inr other ↦ other
        ]

  pub cells_find : CellsFind tag_of class_of put
  cells_find cells old new k c tag up at =
      found_at (has tag_of tag) (λ n l. ap (λ t. same_tag t tag) (is.tag n l)) old new cells 1 k (k + 1) c at (omega arith)
      ∙ ap (option_map (put (k + 1)))
      (find-merged tag_of tag (of_class tag_of class_of put c.first old) (of_class tag_of class_of put c.second new) (Ascend-of_class tag_of class_of c.first old up)
      ∙ ap (λ o. option_or o (find (has tag_of tag) (of_class tag_of class_of put c.second new))) (find-filter (λ l. class_of l == c.first) (has tag_of tag) old)
      ∙ ap (option_or (line_of tag_of class_of put c.first tag old)) (find-filter (λ l. class_of l == c.second) (has tag_of tag) new))

  pub cells_find_old : CellsFindOld tag_of class_of put
  cells_find_old cells old k c test blind at =
      found_at test blind old [] cells 1 k (k + 1) c at (omega arith)
      ∙ ap (λ ls. option_map (put (k + 1)) (find test ls)) (merged-none tag_of (of_class tag_of class_of put c.first old))
      ∙ ap (option_map (put (k + 1))) (find-filter (λ l. class_of l == c.first) test old)

  pub cells_find_new : CellsFindNew tag_of class_of put
  cells_find_new cells new k c test blind at =
      found_at test blind [] new cells 1 k (k + 1) c at (omega arith) ∙ ap (option_map (put (k + 1))) (find-filter (λ l. class_of l == c.second) test new)

  -- ---- order

  abbrev key : L → Key
  key l = key_of tag_of class_of put l

  put_below : (k : ℕ) (l : L) (ls : List L) → AllByRecursion (λ y. IsBelow (tag_key 0 (tag_of l)) (tag_key 0 (tag_of y))) ls
      → AllByRecursion (λ y. IsBelow (key (put k l)) (key y)) (map (put k) ls)
  put_below k l [] all = tt
  put_below k l (y ∷ ys) all = (rw (is.class k l, is.tag k l, is.class k y, is.tag k y) (omega arith, λ e. all.0.1 refl), put_below k l ys all.1)

  put_ascend : (k : ℕ) (ls : List L) → TagsAscend tag_of ls → Ascend (map key (map (put k) ls))
  put_ascend k [] up = tt
  put_ascend k (l ∷ ls) up = Ascend-cons key (put k l) (map (put k) ls) (put_below k l ls (each_below (λ l. tag_key 0 (tag_of l)) l ls up)) (put_ascend k ls up.1)

  spread_ascends : (k : ℕ) (cs : List Cell) (old new : List L) → Ascend (map key old) → Ascend (map key new) → Ascend (map key (spread tag_of class_of put k cs old new))
  spread_ascends k [] old new up up' = tt
  spread_ascends k (c ∷ cs) old new up up' =
      Ascend-append key (in_cell tag_of class_of put k c old new) (spread tag_of class_of put (k + 1) cs old new)
      (put_ascend k (merged tag_of (of_class tag_of class_of put c.first old) (of_class tag_of class_of put c.second new))
      (Ascend-merged tag_of (of_class tag_of class_of put c.first old) (of_class tag_of class_of put c.second new)
      (Ascend-of_class tag_of class_of c.first old up) (Ascend-of_class tag_of class_of c.second new up')))
      (spread_ascends (k + 1) cs old new up up')
      (AllByRecursion-weaker (λ l. class_of l ≡ k) (λ x. AllByRecursion (λ y. IsBelow (key x) (key y)) (spread tag_of class_of put (k + 1) cs old new)) (in_cell tag_of class_of put k c old new)
      (λ x here. AllByRecursion-weaker (λ y. k + 1 ≤ class_of y) (λ y. IsBelow (key x) (key y)) (spread tag_of class_of put (k + 1) cs old new)
      (λ y low. (omega (arith, here, low), λ e. absurd (omega (arith, here, low, e)))) (classes_from (k + 1) cs old new))
      (classes_of_cell k c old new))

  pub spreads_right : SpreadsRight tag_of class_of put
  spreads_right = record { both = cells_find; old = cells_find_old; new = cells_find_new; order = λ cells old new up up'. spread_ascends 1 cells old new up up' }

import_put : IsPut (λ (r : Import). r.tag) (λ (r : Import). r.class) put_import
import_put = record { class = λ n r. refl; tag = λ n r. refl }

export_put : IsPut (λ (e : Export). e.tag) (λ (e : Export). e.class) put_export
export_put = record { class = λ n e. refl; tag = λ n e. refl }

pub imports_spread_right : ImportsSpreadRight
imports_spread_right = spreads_right (λ (r : Import). r.tag) (λ (r : Import). r.class) put_import import_put

pub exports_spread_right : ExportsSpreadRight
exports_spread_right = spreads_right (λ (e : Export). e.tag) (λ (e : Export). e.class) put_export export_put

pub imports_keep : ImportsKeep
imports_keep cells old new m n s all all' =
    let P : Import → Type 0 = λ r. HasTag s r.tag × IsTrue (is_tag r.set) × (r.pref < 2 ^ 32) in
    AllByRecursion-weaker (λ r. P r × (1 ≤ r.class) × (r.class < 1 + length cells)) (IsImport (length cells) s) (spread (λ (r : Import). r.tag) (λ (r : Import). r.class) put_import 1 cells old new)
    (λ r h. ((h.1, omega (arith, h.2)), h.0.0, h.0.1, h.0.2))
    (spread_each (λ (r : Import). r.tag) (λ (r : Import). r.class) put_import import_put P (λ k r h. h) 1 cells old new
    (AllByRecursion-weaker (IsImport m s) P old (λ r h. (h.1, h.2, h.3)) all) (AllByRecursion-weaker (IsImport n s) P new (λ r h. (h.1, h.2, h.3)) all'))

pub exports_keep : ExportsKeep
exports_keep cells old new m n all all' =
    let P : Export → Type 0 = λ e. IsTrue (is_tag e.tag) in
    AllByRecursion-weaker (λ e. P e × (1 ≤ e.class) × (e.class < 1 + length cells)) (IsExport (length cells)) (spread (λ (e : Export). e.tag) (λ (e : Export). e.class) put_export 1 cells old new)
    (λ e h. ((h.1, omega (arith, h.2)), h.0))
    (spread_each (λ (e : Export). e.tag) (λ (e : Export). e.class) put_export export_put P (λ k e h. h) 1 cells old new
    (AllByRecursion-weaker (IsExport m) P old (λ e h. h.1) all) (AllByRecursion-weaker (IsExport n) P new (λ e h. h.1) all'))
