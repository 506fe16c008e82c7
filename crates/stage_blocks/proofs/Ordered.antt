-- Lines that were put together ascend.
use Rattle.std.proofs.Common.{◌≡◌, ℕ, zero, suc, ◌<◌, ◌≤◌, Bool, true, false, List, [], ◌∷◌, ◌++◌, map, take, drop, filter, inl, inr, refl, sym, ◌∙◌, subst, arith}
use Rattle.std.specs.Prelude.{◌&&◌, ◌==◌, nat_lt}
use Rattle.std.specs.List.{AllByRecursion}
use Rattle.std.proofs.lemmas.Bool.{and_parts, eqb-true, ltb-true, or_cases}
use Rattle.std.proofs.lemmas.Bool.Decides.{nat_tests}
use Rattle.list_law.proofs.Each.{AllByRecursion-append, AllByRecursion-weaker}
use Rattle.net_base.specs.declared.numbers.Tag.{Tag}
use Rattle.config_base.specs.Configs.{Ascend, IsBelow, Key, tag_key}
use Rattle.config_base.specs.Lines.{same_tag}
use Rattle.config_base.proofs.SameTags.{same_tag-is}
use Rattle.stage_blocks.specs.Merging.{back, count_below, is_below, merged, without}
use Rattle.stage_blocks.proofs.Merged.{TagsAscend, each-merged}

-- ---- keys

below_then : (a b c : Key) → IsBelow a b → IsBelow b c → IsBelow a c
below_then a b c x y = (
  omega (arith, x.0, y.0),
  λ e. let f : a.first ≡ b.first = omega (arith, x.0, y.0, e) in
      let g : b.first ≡ c.first = omega (arith, x.0, y.0, e) in (
        omega (arith, (x.1 f).0, (y.1 g).0),
        λ e'. let f' : a.second ≡ b.second = omega (arith, (x.1 f).0, (y.1 g).0, e') in
            let g' : b.second ≡ c.second = omega (arith, (x.1 f).0, (y.1 g).0, e') in
            omega (arith, (x.1 f).1 f', (y.1 g).1 g'),
      ),
)

from_below : (t u : Tag) → is_below t u ≡ true → IsBelow (tag_key 0 t) (tag_key 0 u)
from_below t u h = elim (or_cases (nat_lt t.asn u.asn) (t.asn == u.asn && nat_lt t.value u.value) h) [
  | inl less ↦ (let l = ltb-true t.asn u.asn less in (omega arith, λ _. (omega (arith, l), λ e. absurd (omega (arith, l, e)))))
  | inr both ↦ (
      let parts = and_parts (t.asn == u.asn) (nat_lt t.value u.value) both in
      let same = eqb-true t.asn u.asn parts.0 in
      let l = ltb-true t.value u.value parts.1 in
      (omega arith, λ _. (omega (arith, same), λ e. l)))
]

asn_no_less : (t u : Tag) → is_below t u ≡ false → u.asn ≤ t.asn
asn_no_less t u h = grind (arith, nat_tests)

value_less : (t u : Tag) → is_below t u ≡ false → same_tag t u ≡ false → u.asn ≡ t.asn → u.value < t.value
value_less t u h k e = grind (arith, nat_tests)

from_neither : (t u : Tag) → is_below t u ≡ false → same_tag t u ≡ false → IsBelow (tag_key 0 u) (tag_key 0 t)
from_neither t u h k = (omega arith, λ _. (asn_no_less t u h, λ e. value_less t u h k e))

-- ---- lists with keys

module _ {X : Type 0} (key : X → Key) where
  unmapped : (Q : Key → Type 0) (xs : List X) → AllByRecursion Q (map key xs) → AllByRecursion (λ x. Q (key x)) xs
  unmapped Q [] all = tt
  unmapped Q (x ∷ xs) all = (all.0, unmapped Q xs all.1)

  mapped : (Q : Key → Type 0) (xs : List X) → AllByRecursion (λ x. Q (key x)) xs → AllByRecursion Q (map key xs)
  mapped Q [] all = tt
  mapped Q (x ∷ xs) all = (all.0, mapped Q xs all.1)

  pub Ascend-append : (xs ys : List X) → Ascend (map key xs) → Ascend (map key ys) → AllByRecursion (λ x. AllByRecursion (λ y. IsBelow (key x) (key y)) ys) xs → Ascend (map key (xs ++ ys))
  Ascend-append [] ys up up' all = up'
  Ascend-append (x ∷ xs) ys up up' all =
      (mapped (IsBelow (key x)) (xs ++ ys) (AllByRecursion-append (λ y. IsBelow (key x) (key y)) xs ys (unmapped (IsBelow (key x)) xs up.0) all.0), Ascend-append xs ys up.1 up' all.1)

  pub each_below : (x : X) (xs : List X) → Ascend (map key (x ∷ xs)) → AllByRecursion (λ y. IsBelow (key x) (key y)) xs
  each_below x xs up = unmapped (IsBelow (key x)) xs up.0

  pub Ascend-cons : (x : X) (xs : List X) → AllByRecursion (λ y. IsBelow (key x) (key y)) xs → Ascend (map key xs) → Ascend (map key (x ∷ xs))
  Ascend-cons x xs all up = (mapped (IsBelow (key x)) xs all, up)

  each_taken : (P : X → Type 0) (n : ℕ) (xs : List X) → AllByRecursion P xs → AllByRecursion P (take n xs)
  each_taken P zero xs all = tt
  each_taken P (suc n) [] all = tt
  each_taken P (suc n) (x ∷ xs) all = (all.0, each_taken P n xs all.1)

  Ascend-take : (n : ℕ) (xs : List X) → Ascend (map key xs) → Ascend (map key (take n xs))
  Ascend-take zero xs up = tt
  Ascend-take (suc n) [] up = tt
  Ascend-take (suc n) (x ∷ xs) up = Ascend-cons x (take n xs) (each_taken (λ y. IsBelow (key x) (key y)) n xs (each_below x xs up)) (Ascend-take n xs up.1)

  Ascend-drop : (n : ℕ) (xs : List X) → Ascend (map key xs) → Ascend (map key (drop n xs))
  Ascend-drop zero xs up = up
  Ascend-drop (suc n) [] up = tt
  Ascend-drop (suc n) (x ∷ xs) up = Ascend-drop n xs up.1

-- ---- lines of one class

module _ {L : Type 0} (tag_of : L → Tag) where
  abbrev key : L → Key
  key l = tag_key 0 (tag_of l)

  front_below : (tag : Tag) (ls : List L) → AllByRecursion (λ x. IsBelow (key x) (tag_key 0 tag)) (take (count_below tag_of tag ls) ls)
  front_below tag [] = tt
  front_below tag (l ∷ ls) = by (is_below (tag_of l) tag) refl (front_below tag ls)
    where
      by : (b : Bool) → is_below (tag_of l) tag ≡ b → AllByRecursion (λ x. IsBelow (key x) (tag_key 0 tag)) (take (count_below tag_of tag ls) ls)
          → AllByRecursion (λ x. IsBelow (key x) (tag_key 0 tag)) (take (count_below tag_of tag (l ∷ ls)) (l ∷ ls))
      by true h later = rw h (from_below (tag_of l) tag h, later)
      by false h later = rw h tt

  Ascend-without : (tag : Tag) (ls : List L) → TagsAscend tag_of ls → TagsAscend tag_of (without tag_of tag ls)
  Ascend-without tag [] up = tt
  Ascend-without tag (l ∷ ls) up = by (same_tag (tag_of l) tag) refl
    where
      by : (b : Bool) → same_tag (tag_of l) tag ≡ b → TagsAscend tag_of (without tag_of tag (l ∷ ls))
      by true e = rw e up.1
      by false e = rw e up

  Ascend-back : (tag : Tag) (ls : List L) → TagsAscend tag_of ls → TagsAscend tag_of (back tag_of tag ls)
  Ascend-back tag ls up = Ascend-without tag (drop (count_below tag_of tag ls) ls) (Ascend-drop key (count_below tag_of tag ls) ls up)

  back_above : (tag : Tag) (ls : List L) → TagsAscend tag_of ls → AllByRecursion (λ x. IsBelow (tag_key 0 tag) (key x)) (back tag_of tag ls)
  back_above tag [] up = tt
  back_above tag (l ∷ ls) up = by (is_below (tag_of l) tag) refl (back_above tag ls up.1)
    where
      left : (b : Bool) → same_tag (tag_of l) tag ≡ b → is_below (tag_of l) tag ≡ false → AllByRecursion (λ x. IsBelow (tag_key 0 tag) (key x)) (without tag_of tag (l ∷ ls))
      left true e h = rw e (subst (λ t. AllByRecursion (λ x. IsBelow (tag_key 0 t) (key x)) ls) (same_tag-is (tag_of l) tag e) (each_below key l ls up))
      left false e h =
          let above = from_neither (tag_of l) tag h e in
          rw e (above, AllByRecursion-weaker (λ y. IsBelow (key l) (key y)) (λ y. IsBelow (tag_key 0 tag) (key y)) ls (λ y b. below_then (tag_key 0 tag) (key l) (key y) above b) (each_below key l ls up))

      by : (b : Bool) → is_below (tag_of l) tag ≡ b → AllByRecursion (λ x. IsBelow (tag_key 0 tag) (key x)) (back tag_of tag ls) → AllByRecursion (λ x. IsBelow (tag_key 0 tag) (key x)) (back tag_of tag (l ∷ ls))
      by true h later = rw h later
      by false h later = rw h (left (same_tag (tag_of l) tag) refl h)

  pub Ascend-merged : (ls others : List L) → TagsAscend tag_of ls → TagsAscend tag_of others → TagsAscend tag_of (merged tag_of ls others)
  Ascend-merged [] others up up' = up'
  Ascend-merged (l ∷ ls) others up up' =
      let behind = back tag_of (tag_of l) others in
      let later : AllByRecursion (λ y. IsBelow (key l) (key y)) (merged tag_of ls behind) =
      each-merged tag_of (λ y. IsBelow (key l) (key y)) ls behind (each_below key l ls up) (back_above (tag_of l) others up') in
      Ascend-append key (take (count_below tag_of (tag_of l) others) others) (l ∷ merged tag_of ls behind)
      (Ascend-take key (count_below tag_of (tag_of l) others) others up')
      (Ascend-cons key l (merged tag_of ls behind) later (Ascend-merged ls behind up.1 (Ascend-back (tag_of l) others up')))
      (AllByRecursion-weaker (λ x. IsBelow (key x) (key l)) (λ x. AllByRecursion (λ y. IsBelow (key x) (key y)) (l ∷ merged tag_of ls behind)) (take (count_below tag_of (tag_of l) others) others)
      (λ x b. (b, AllByRecursion-weaker (λ y. IsBelow (key l) (key y)) (λ y. IsBelow (key x) (key y)) (merged tag_of ls behind) (λ y c. below_then (key x) (key l) (key y) b c) later))
      (front_below (tag_of l) others))

  -- ---- the lines of a class among those of a block

  module _ (class_of : L → ℕ) where
    abbrev full : L → Key
    full l = tag_key (class_of l) (tag_of l)

    below_of_class : (l : L) (n : ℕ) (ls : List L) → class_of l ≡ n → AllByRecursion (λ y. IsBelow (full l) (full y)) ls
        → AllByRecursion (λ y. IsBelow (key l) (key y)) (filter (λ y. class_of y == n) ls)
    below_of_class l n [] same all = tt
    below_of_class l n (y ∷ ys) same all = by (class_of y == n) refl (below_of_class l n ys same all.1)
      where
        by : (b : Bool) → (class_of y == n) ≡ b → AllByRecursion (λ y. IsBelow (key l) (key y)) (filter (λ y. class_of y == n) ys)
            → AllByRecursion (λ y. IsBelow (key l) (key y)) (filter (λ y. class_of y == n) (y ∷ ys))
        by true e later =
            let one : class_of l ≡ class_of y = same ∙ sym (eqb-true (class_of y) n e) in
            rw e ((omega arith, λ _. all.0.1 one), later)
        by false e later = rw e later

    pub Ascend-of_class : (n : ℕ) (ls : List L) → Ascend (map full ls) → TagsAscend tag_of (filter (λ l. class_of l == n) ls)
    Ascend-of_class n [] up = tt
    Ascend-of_class n (l ∷ ls) up = by (class_of l == n) refl (Ascend-of_class n ls up.1)
      where
        by : (b : Bool) → (class_of l == n) ≡ b → TagsAscend tag_of (filter (λ l. class_of l == n) ls) → TagsAscend tag_of (filter (λ l. class_of l == n) (l ∷ ls))
        by true e later =
            rw e
            (Ascend-cons key l (filter (λ l. class_of l == n) ls) (below_of_class l n ls (eqb-true (class_of l) n e) (each_below full l ls up)) later)
        by false e later = rw e later
