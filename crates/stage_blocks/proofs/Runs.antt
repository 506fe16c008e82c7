-- The lines of a class are a run among lines that ascend.
use Rattle.std.proofs.Common.{◌≡◌, ℕ, zero, suc, ◌-◌, ◌<◌, ◌≤◌, Bool, true, false, List, [], ◌∷◌, length, map, take, drop, filter, get_or, arith, Bor}
use Rattle.std.specs.Prelude.{◌==◌, nat_le, nat_lt}
use Rattle.std.specs.List.{AllByRecursion}
use Rattle.std.specs.List.Sorted.{IsPartitionPoint, IsPartitionedBy}
use Rattle.std.specs.Fn.{Called, ComputesKey, Mut}
use Rattle.std.proofs.lemmas.Bool.{le-leb, leb-true, lt-ltb, ltb-true}
use Rattle.std.proofs.lemmas.Bool.Decides.{nat_tests}
use Rattle.std.proofs.lemmas.List.Sorted.{IsPartitionPoint-from_clause}
use Rattle.list_law.proofs.SortedRuns.{points_ordered, run_between}
use Rattle.net_base.specs.declared.numbers.Tag.{Tag}
use Rattle.config_base.specs.Configs.{Ascend, IsBelow, tag_key}

module _ {L : Type 0} (tag_of : L → Tag) (class_of : L → ℕ) where
  abbrev Up : List L → Type 0
  Up ls = Ascend (map (λ l. tag_key (class_of l) (tag_of l)) ls)

  -- classes don't fall
  later_class : (l : L) (ls : List L) → AllByRecursion (IsBelow (tag_key (class_of l) (tag_of l))) (map (λ l. tag_key (class_of l) (tag_of l)) ls)
      → (j : ℕ) (d : L) → j < length ls → class_of l ≤ class_of (get_or ls j d)
  later_class l [] all j d within = absurd (omega arith)
  later_class l (x ∷ xs) all zero d within = all.0.0
  later_class l (x ∷ xs) all (suc j) d within = later_class l xs all.1 j d (omega arith)

  parted : (q : ℕ → Bool) → ((m n : ℕ) → m ≤ n → q n ≡ true → q m ≡ true) → (ls : List L) → Up ls → IsPartitionedBy (λ l. q (class_of l)) ls
  parted q down [] up i j d le within h = absurd (omega arith)
  parted q down (l ∷ ls) up zero zero d le within h = h
  parted q down (l ∷ ls) up zero (suc j) d le within h = down _ _ (later_class l ls up.0 j d (omega arith)) h
  parted q down (l ∷ ls) up (suc i) zero d le within h = absurd (omega arith)
  parted q down (l ∷ ls) up (suc i) (suc j) d le within h = parted q down ls up.1 i j d (omega arith) (omega arith) h

  less_down : (k m n : ℕ) → m ≤ n → nat_lt n k ≡ true → nat_lt m k ≡ true
  less_down k m n le h = lt-ltb m k (omega (arith, le, ltb-true n k h))

  le_down : (k m n : ℕ) → m ≤ n → nat_le n k ≡ true → nat_le m k ≡ true
  le_down k m n le h = le-leb m k (omega (arith, le, leb-true n k h))

  -- what the two searches find
  pub start_point : {F : Type 0} {g : Mut F (Bor L × Unit {0}) Bool} {f : F} (ls : List L) (k i : ℕ) → Up ls
      → ((t : L → Bool) → ComputesKey g t f → IsPartitionedBy t ls → IsPartitionPoint (λ y. t y ≡ true) (λ y. t y ≡ false) ls i)
      → ((a : Bor L × Unit {0}) (b : Bool) (f' : F) → Called g f a b f' → (b ≡ nat_lt (class_of a.0.now) k) × (f' ≡ f))
      → IsPartitionPoint (λ l. nat_lt (class_of l) k ≡ true) (λ l. nat_lt (class_of l) k ≡ false) ls i
  start_point ls k i up clause tells = IsPartitionPoint-from_clause (λ l. nat_lt (class_of l) k) ls i clause (parted (λ n. nat_lt n k) (less_down k) ls up) tells

  pub end_point : {F : Type 0} {g : Mut F (Bor L × Unit {0}) Bool} {f : F} (ls : List L) (k i : ℕ) → Up ls
      → ((t : L → Bool) → ComputesKey g t f → IsPartitionedBy t ls → IsPartitionPoint (λ y. t y ≡ true) (λ y. t y ≡ false) ls i)
      → ((a : Bor L × Unit {0}) (b : Bool) (f' : F) → Called g f a b f' → (b ≡ nat_le (class_of a.0.now) k) × (f' ≡ f))
      → IsPartitionPoint (λ l. nat_le (class_of l) k ≡ true) (λ l. nat_le (class_of l) k ≡ false) ls i
  end_point ls k i up clause tells = IsPartitionPoint-from_clause (λ l. nat_le (class_of l) k) ls i clause (parted (λ n. nat_le n k) (le_down k) ls up) tells

  module _ (k i j : ℕ) where
    more : (l : L) → nat_lt (class_of l) k ≡ true → nat_le (class_of l) k ≡ true
    more l h = grind (arith, nat_tests)

    early : (l : L) → nat_lt (class_of l) k ≡ true → (class_of l == k) ≡ false
    early l h = grind (arith, nat_tests)

    late : (l : L) → nat_le (class_of l) k ≡ false → (class_of l == k) ≡ false
    late l h = grind (arith, nat_tests)

    inside : (l : L) → nat_lt (class_of l) k ≡ false → nat_le (class_of l) k ≡ true → (class_of l == k) ≡ true
    inside l h h' = grind (arith, nat_tests)

    pub run_starts : (ls : List L) → i ≤ length ls → IsPartitionPoint (λ l. nat_lt (class_of l) k ≡ true) (λ l. nat_lt (class_of l) k ≡ false) ls i
        → IsPartitionPoint (λ l. nat_le (class_of l) k ≡ true) (λ l. nat_le (class_of l) k ≡ false) ls j → i ≤ j
    run_starts [] short start end = omega (arith, short)
    run_starts (l ∷ ls) short start end =
        points_ordered (λ l. nat_lt (class_of l) k) (λ l. nat_le (class_of l) k) (λ l. class_of l == k) more early late inside (l ∷ ls) i j short start end l

    pub run_is : (ls : List L) → i ≤ length ls → IsPartitionPoint (λ l. nat_lt (class_of l) k ≡ true) (λ l. nat_lt (class_of l) k ≡ false) ls i
        → IsPartitionPoint (λ l. nat_le (class_of l) k ≡ true) (λ l. nat_le (class_of l) k ≡ false) ls j → take (j - i) (drop i ls) ≡ filter (λ l. class_of l == k) ls
    run_is ls short start end =
        run_between (λ l. nat_lt (class_of l) k) (λ l. nat_le (class_of l) k) (λ l. class_of l == k) more early late inside ls i j short start end (run_starts ls short start end)
