-- What is found among lines that were put together by their tags.
use Rattle.std.proofs.Common.{◌≡◌, ℕ, zero, suc, Bool, true, false, List, [], ◌∷◌, map, take, drop, Option, Some, None, inl, inr, refl, sym, ap, ◌∙◌, arith}
use Rattle.std.specs.List.{AllByRecursion, find}
use Rattle.std.specs.Option.{option_or}
use Rattle.std.proofs.lemmas.Bool.{cases_Bool, false≢true}
use Rattle.std.proofs.lemmas.Bool.Decides.{nat_tests}
use Rattle.std.proofs.lemmas.List.Folds.{find-append}
use Rattle.list_law.proofs.Each.{AllByRecursion-append}
use Rattle.net_base.specs.declared.numbers.Tag.{Tag}
use Rattle.config_base.specs.Configs.{Ascend, IsBelow, tag_key}
use Rattle.config_base.specs.Lines.{same_tag}
use Rattle.stage_blocks.specs.Merging.{back, count_below, is_below, merged, without}

-- ---- the order of tags

below-apart : (t u : Tag) → is_below t u ≡ true → same_tag t u ≡ false
below-apart t u h = grind (arith, nat_tests)

same-as : (t u v : Tag) → same_tag t u ≡ true → same_tag u v ≡ true → same_tag t v ≡ true
same-as t u v h k = grind (arith, nat_tests)

same-back : (t u : Tag) → same_tag t u ≡ true → same_tag u t ≡ true
same-back t u h = grind (arith, nat_tests)

-- a tag that is below another isn't that of what stands behind it
below-later : (t u v w : Tag) → is_below t u ≡ true → IsBelow (tag_key 0 u) (tag_key 0 v) → same_tag t w ≡ true → same_tag v w ≡ false
below-later t u v w h below k = grind (arith, nat_tests)

module _ {L : Type 0} (tag_of : L → Tag) where
  -- the line is about the tag
  abbrev pub has : Tag → L → Bool
  has tag l = same_tag (tag_of l) tag

  -- lines of one class that ascend
  abbrev pub TagsAscend : List L → Type 0
  TagsAscend ls = Ascend (map (λ l. tag_key 0 (tag_of l)) ls)

  -- ---- what stands in front, and what is behind

  -- no line in front is about the tag up to which it goes
  none_in_front : (t : Tag) (ls : List L) (tag : Tag) → same_tag tag t ≡ true → find (has t) (take (count_below tag_of tag ls) ls) ≡ None
  none_in_front t [] tag same = refl
  none_in_front t (l ∷ ls) tag same = by (is_below (tag_of l) tag) refl (none_in_front t ls tag same)
    where
      other : is_below (tag_of l) tag ≡ true → has t l ≡ false
      other h = elim (cases_Bool (has t l)) [
        | inl on ↦ absurd (false≢true (sym (below-apart (tag_of l) tag h) ∙ same-as (tag_of l) t tag on (same-back tag t same)))
        | inr off ↦ off
      ]

      by : (b : Bool) → is_below (tag_of l) tag ≡ b → find (has t) (take (count_below tag_of tag ls) ls) ≡ None → find (has t) (take (count_below tag_of tag (l ∷ ls)) (l ∷ ls)) ≡ None
      by true h later = rw h (rw (other h) later)
      by false h later = rw h refl

  -- of another tag, what there is is in front or behind
  front_or_back : (t : Tag) (ls : List L) (tag : Tag) → same_tag tag t ≡ false
      → find (has t) ls ≡ option_or (find (has t) (take (count_below tag_of tag ls) ls)) (find (has t) (back tag_of tag ls))
  front_or_back t [] tag other = refl
  front_or_back t (l ∷ ls) tag other = by (is_below (tag_of l) tag) refl (front_or_back t ls tag other)
    where
      here : (b : Bool) → has t l ≡ b → find (has t) ls ≡ option_or (find (has t) (take (count_below tag_of tag ls) ls)) (find (has t) (back tag_of tag ls))
          → find (has t) (l ∷ ls) ≡ option_or (find (has t) (l ∷ take (count_below tag_of tag ls) ls)) (find (has t) (back tag_of tag ls))
      here true h later = rw h refl
      here false h later = rw h later

      gone : same_tag (tag_of l) tag ≡ true → has t l ≡ false
      gone same = elim (cases_Bool (has t l)) [
        | inl on ↦ absurd (false≢true (sym other ∙ same-as tag (tag_of l) t (same-back (tag_of l) tag same) on))
        | inr off ↦ off
      ]

      left : (b : Bool) → same_tag (tag_of l) tag ≡ b → find (has t) (l ∷ ls) ≡ find (has t) (without tag_of tag (l ∷ ls))
      left true same = rw (same, gone same) refl
      left false same = rw same refl

      by : (b : Bool) → is_below (tag_of l) tag ≡ b → find (has t) ls ≡ option_or (find (has t) (take (count_below tag_of tag ls) ls)) (find (has t) (back tag_of tag ls))
          → find (has t) (l ∷ ls) ≡ option_or (find (has t) (take (count_below tag_of tag (l ∷ ls)) (l ∷ ls))) (find (has t) (back tag_of tag (l ∷ ls)))
      by true h later = rw h (here (has t l) refl later)
      by false h later = rw h (left (same_tag (tag_of l) tag) refl)

  -- a line in front is of a smaller tag
  below_in_front : (t tag : Tag) (ls : List L) (x : L) → find (has t) (take (count_below tag_of tag ls) ls) ≡ Some x → (u : Tag) × (is_below u tag ≡ true) × (same_tag u t ≡ true)
  below_in_front t tag [] x h = absurd cc
  below_in_front t tag (l ∷ ls) x h = by (is_below (tag_of l) tag) (has t l) refl refl h (below_in_front t tag ls x)
    where
      by : (b c : Bool) → is_below (tag_of l) tag ≡ b → has t l ≡ c → find (has t) (take (count_below tag_of tag (l ∷ ls)) (l ∷ ls)) ≡ Some x
          → (find (has t) (take (count_below tag_of tag ls) ls) ≡ Some x → (u : Tag) × (is_below u tag ≡ true) × (same_tag u t ≡ true))
          → (u : Tag) × (is_below u tag ≡ true) × (same_tag u t ≡ true)
      by false c e f found later = absurd (let none : None ≡ Some x = rw e at found in cc)
      by true true e f found later = (tag_of l, e, f)
      by true false e f found later = later (rw f at (rw e at found))

  none_later : (t u tag : Tag) (ls : List L) → is_below u tag ≡ true → same_tag u t ≡ true → AllByRecursion (IsBelow (tag_key 0 tag)) (map (λ l. tag_key 0 (tag_of l)) ls)
      → find (has t) ls ≡ None
  none_later t u tag [] below same all = refl
  none_later t u tag (l ∷ ls) below same all = rw (below-later u tag (tag_of l) t below all.0 same) (none_later t u tag ls below same all.1)

  -- of a line, what stands before it and what comes behind
  around : (t : Tag) (l : L) (ls others front behind later : List L) → (has t l ≡ true → find (has t) front ≡ None)
      → (has t l ≡ false → option_or (find (has t) front) (option_or (find (has t) ls) (find (has t) behind)) ≡ option_or (find (has t) ls) (find (has t) others))
      → find (has t) later ≡ option_or (find (has t) ls) (find (has t) behind)
      → option_or (find (has t) front) (find (has t) (l ∷ later)) ≡ option_or (find (has t) (l ∷ ls)) (find (has t) others)
  around t l ls others front behind later none other rest = by (has t l) refl
    where
      by : (b : Bool) → has t l ≡ b → option_or (find (has t) front) (find (has t) (l ∷ later)) ≡ option_or (find (has t) (l ∷ ls)) (find (has t) others)
      by true h = rw (h, none h) refl
      by false h = rw h (ap (option_or (find (has t) front)) rest ∙ other h)

  -- what is in front stands before the rest of the first list
  front_first : (t : Tag) (l : L) (ls others front behind : List L) (o : Option L) → find (has t) front ≡ o → ((x : L) → o ≡ Some x → find (has t) ls ≡ None)
      → find (has t) others ≡ option_or (find (has t) front) (find (has t) behind)
      → option_or (find (has t) front) (option_or (find (has t) ls) (find (has t) behind)) ≡ option_or (find (has t) ls) (find (has t) others)
  front_first t l ls others front behind None e none split = rw (split, e) refl
  front_first t l ls others front behind (Some x) e none split = rw (split, e, none x refl) refl

  -- the line about a tag is that of the first list, or else that of the second
  pub find-merged : (t : Tag) (ls others : List L) → TagsAscend ls → find (has t) (merged tag_of ls others) ≡ option_or (find (has t) ls) (find (has t) others)
  find-merged t [] others up = refl
  find-merged t (l ∷ ls) others up =
      let front : List L = take (count_below tag_of (tag_of l) others) others in
      let behind : List L = back tag_of (tag_of l) others in
      find-append (has t) front (l ∷ merged tag_of ls behind)
      ∙ around t l ls others front behind (merged tag_of ls behind) (λ h. none_in_front t others (tag_of l) h)
      (λ h. front_first t l ls others front behind (find (has t) front) refl (λ x e. gone x e) (front_or_back t others (tag_of l) h))
      (find-merged t ls behind up.1)
    where
      gone : (x : L) → find (has t) (take (count_below tag_of (tag_of l) others) others) ≡ Some x → find (has t) ls ≡ None
      gone x e = let b = below_in_front t (tag_of l) others x e in none_later t b.0 (tag_of l) ls b.1 b.2 up.0

  -- ---- what holds of each line of both holds of each

  each_taken : (P : L → Type 0) (n : ℕ) (ls : List L) → AllByRecursion P ls → AllByRecursion P (take n ls)
  each_taken P zero ls all = tt
  each_taken P (suc n) [] all = tt
  each_taken P (suc n) (l ∷ ls) all = (all.0, each_taken P n ls all.1)

  each_dropped : (P : L → Type 0) (n : ℕ) (ls : List L) → AllByRecursion P ls → AllByRecursion P (drop n ls)
  each_dropped P zero ls all = all
  each_dropped P (suc n) [] all = tt
  each_dropped P (suc n) (l ∷ ls) all = each_dropped P n ls all.1

  each_without : (P : L → Type 0) (tag : Tag) (ls : List L) → AllByRecursion P ls → AllByRecursion P (without tag_of tag ls)
  each_without P tag [] all = tt
  each_without P tag (l ∷ ls) all = by (same_tag (tag_of l) tag) refl
    where
      by : (b : Bool) → same_tag (tag_of l) tag ≡ b → AllByRecursion P (without tag_of tag (l ∷ ls))
      by true e = rw e all.1
      by false e = rw e all

  each_back : (P : L → Type 0) (tag : Tag) (ls : List L) → AllByRecursion P ls → AllByRecursion P (back tag_of tag ls)
  each_back P tag ls all = each_without P tag (drop (count_below tag_of tag ls) ls) (each_dropped P (count_below tag_of tag ls) ls all)

  pub each-merged : (P : L → Type 0) (ls others : List L) → AllByRecursion P ls → AllByRecursion P others → AllByRecursion P (merged tag_of ls others)
  each-merged P [] others all each = each
  each-merged P (l ∷ ls) others all each =
      AllByRecursion-append P (take (count_below tag_of (tag_of l) others) others) (l ∷ merged tag_of ls (back tag_of (tag_of l) others))
      (each_taken P (count_below tag_of (tag_of l) others) others each) (all.0, each-merged P ls (back tag_of (tag_of l) others) all.1 (each_back P (tag_of l) others each))

  -- and nothing comes to the lines of one list alone
  pub merged-none : (ls : List L) → merged tag_of ls [] ≡ ls
  merged-none [] = refl
  merged-none (l ∷ ls) = ap (λ more. l ∷ more) (merged-none ls)
