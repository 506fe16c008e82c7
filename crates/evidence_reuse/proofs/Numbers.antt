-- The numbers of old classes as which cases may stay, and which cases stay by that.
use Rattle.std.proofs.Common.{◌≡◌, ℕ, ◌+◌, ◌-◌, ◌<◌, zero, suc, true, false, List, [], ◌∷◌, ◌++◌, length, get_or, drop, is_some, nat_lt, Option, Some, None, IfSome, IfNone, Bor, refl, sym, ap, ◌∙◌, subst, arith, inl, inr}
use Rattle.std.specs.Prelude.{slice_get, slice_range}
use Rattle.std.specs.List.{list_any}
use Rattle.std.proofs.lemmas.Bool.{cases_lt, eq-eqb, eqb-true, false≢true, ltb-false, ltb-true, true≢false}
use Rattle.std.proofs.lemmas.List.{length-append, length-drop, take_all}
use Rattle.std.proofs.lemmas.Option.{same_Some, slice_get_past, slice_get_read, slice_get_within}
use Rattle.list_law.proofs.Each.{AllByRecursion-from_list_any, AllByRecursion_at}
use Rattle.list_law.proofs.Items.{from_front, same_item, slice_get-there, slice_get_inside}
use Rattle.list_law.proofs.Tests.{list_any_parts}
use Rattle.evidence_base.specs.Made.{PlainCaseEvidence}
use Rattle.stage_classes.specs.declared.cell.Cell.{Cell}
use Rattle.evidence_reuse.specs.Staying.{AreNumbers, IsNumber, IsOldClass, IsSameCase, MayStay, Stays, is_number}

-- ---- among later ones

-- what stands in the rest stands behind as many
from_rest : {A : Type 0} (n : ℕ) (xs : List A) (i : ℕ) → slice_get (drop n xs) i ≡ slice_get xs (n + i)
from_rest zero xs i = let same : i ≡ 0 + i = omega arith in ap (slice_get xs) same
from_rest (suc n) [] i = slice_get_past [] i (omega arith) ∙ sym (slice_get_past [] (suc n + i) (omega arith))
from_rest (suc n) (x ∷ xs) i = let same : suc (n + i) ≡ suc n + i = omega arith in from_rest n xs i ∙ ap (slice_get (x ∷ xs)) same

-- it is a slice up to the end
pub to_end : {A : Type 0} (xs : List A) (n : ℕ) → drop n xs ≡ slice_range xs n (length xs)
to_end xs n = sym (take_all (length xs - n) (drop n xs) (omega (arith, length-drop n xs)))

module _ (was : ℕ) (ns : List (Option ℕ)) (place : ℕ) where
  none_later : list_any (is_number was) (drop (place + 1) ns) ≡ false → (k : ℕ) → place < k → slice_get ns k ≡ Some (Some was) → ⊥
  none_later none k after at =
      let i = k - (place + 1) in
      let far : (place + 1) + i ≡ k = omega (arith, after) in
      let there : slice_get (drop (place + 1) ns) i ≡ Some (Some was) = from_rest (place + 1) ns i ∙ ap (slice_get ns) far ∙ at in
      let all = AllByRecursion-from_list_any (is_number was) (drop (place + 1) ns) none in
      true≢false (sym (eq-eqb was was refl) ∙ AllByRecursion_at (λ n. is_number was n ≡ false) (drop (place + 1) ns) i (Some was) all there)

  some_later : list_any (is_number was) (drop (place + 1) ns) ≡ true → (k : ℕ) × (place < k) × (slice_get ns k ≡ Some (Some was))
  some_later some =
      let found = list_any_parts (is_number was) (drop (place + 1) ns) some in
      (place + 1 + found.0, omega arith, sym (from_rest (place + 1) ns found.0) ∙ found.2 ∙ ap Some (it_is found.1 found.3))
    where
      it_is : (n : Option ℕ) → is_number was n ≡ true → n ≡ Some was
      it_is None h = absurd (false≢true h)
      it_is (Some n) h = ap Some (eqb-true n was h)

-- ---- of one case

module _ (between : List Cell) (olds : List PlainCaseEvidence) where
  -- it may stay as one
  pub one_class : (place m n : ℕ) → IsOldClass between olds place m → IsOldClass between olds place n → m ≡ n
  one_class place m n a b = same_Some m n (sym a.shares ∙ b.shares)

  module _ (place : ℕ) (c : PlainCaseEvidence) where
    pub none_by_class : ((was : ℕ) → IsOldClass between olds place was → ⊥) → (was : ℕ) (e : PlainCaseEvidence) → MayStay between olds place c was e → ⊥
    none_by_class never was e may = never was may.class

    pub none_by_place : (was : ℕ) → IsOldClass between olds place was → slice_get olds (was - 1) ≡ None → (v : ℕ) (e : PlainCaseEvidence) → MayStay between olds place c v e → ⊥
    none_by_place was is none v e may =
        let same = one_class place was v is may.class in
        let clash : None ≡ Some e = sym none ∙ ap (λ w. slice_get olds (w - 1)) same ∙ may.at in
        cc

    pub none_by_case : (was : ℕ) (b : PlainCaseEvidence) → IsOldClass between olds place was → slice_get olds (was - 1) ≡ Some b → (IsSameCase c b → ⊥)
        → (v : ℕ) (e : PlainCaseEvidence) → MayStay between olds place c v e → ⊥
    none_by_case was b is at other v e may =
        let same = one_class place v was may.class is in
        other (subst (IsSameCase c) (same_item olds (v - 1) (was - 1) e b may.at at (ap (λ w. w - 1) same)) may.same)

    pub number_is : (was : ℕ) (b : PlainCaseEvidence) → IsOldClass between olds place was → slice_get olds (was - 1) ≡ Some b → IsSameCase c b → IsNumber between olds place c (Some was)
    number_is was b is at same = (b, record { class = is; at = at; same = same })

  -- ---- of all

  module _ (cs : List PlainCaseEvidence) where
    -- those of so many cases
    pub record AreNumbersUpTo (i : ℕ) (ns : List (Option ℕ)) : Type 0 where
      pub long : length ns ≡ i
      pub each : (k : ℕ) (c : PlainCaseEvidence) (n : Option ℕ) → slice_get cs k ≡ Some c → slice_get ns k ≡ Some n → IsNumber between olds k c n

    pub one_number : (i : ℕ) (ns next : List (Option ℕ)) (c : PlainCaseEvidence) (n : Option ℕ) → AreNumbersUpTo i ns → slice_get cs i ≡ Some c → IsNumber between olds i c n
        → next ≡ ns ++ n ∷ [] → AreNumbersUpTo (i + 1) next
    one_number i ns next c n are at is same = record {
      long = ap length same ∙ length-append ns (n ∷ []) ∙ ap (λ m. m + 1) are.long;
      each = λ k d m here there. push_each k d m here (subst (λ xs. slice_get xs k ≡ Some m) same there);
    }
      where
        push_each : (k : ℕ) (d : PlainCaseEvidence) (m : Option ℕ) → slice_get cs k ≡ Some d → slice_get (ns ++ n ∷ []) k ≡ Some m → IsNumber between olds k d m
        push_each k d m here there = elim (cases_lt k i) [
          | inl before ↦ are.each k d m here (from_front ns (n ∷ []) k m there (omega (arith, before, are.long)))
          | inr after ↦
              let end : length (ns ++ n ∷ []) ≡ length ns + 1 = length-append ns (n ∷ []) in
              let last : k ≡ i = omega (arith, after, slice_get_within (ns ++ n ∷ []) k m there, end, are.long) in
              let one : n ≡ m = same_item (ns ++ n ∷ []) (length ns) k n m (slice_get-there ns n []) there (are.long ∙ sym last) in
              let P : PlainCaseEvidence → Type 0 = λ y. IsNumber between olds k y m in
              let Q : Option ℕ → Type 0 = λ y. IsNumber between olds k c y in
              subst P (same_item cs i k c d at here (sym last)) (subst Q one (subst (λ j. IsNumber between olds j c n) (sym last) is))
        ]

    pub all_numbers : (i : ℕ) (ns : List (Option ℕ)) → AreNumbersUpTo i ns → i ≡ length cs → AreNumbers between olds cs ns
    all_numbers i ns are end = record { count = are.long ∙ end; each = are.each }

    -- ---- what stays

    module _ (ns : List (Option ℕ)) (are : AreNumbers between olds cs ns) (place : ℕ) (c : PlainCaseEvidence) (here : slice_get cs place ≡ Some c) where
      pub stays_by : (was : ℕ) (e : PlainCaseEvidence) → slice_get ns place ≡ Some (Some was) → list_any (is_number was) (drop (place + 1) ns) ≡ false → slice_get olds (was - 1) ≡ Some e
          → Stays between olds cs place c e
      stays_by was e at none there =
          let m = are.each place c (Some was) here at in
          record {
            was = was;
            may = subst (MayStay between olds place c was) (same_item olds (was - 1) (was - 1) m.0 e m.1.at there refl) m.1;
            last = λ k d f after other may.
                let n = slice_get_inside ns k (omega (arith, slice_get_within cs k d other, are.count)) in
                no_other k d f after may n.0 n.1 (are.each k d n.0 other n.1);
          }
        where
          no_other : (k : ℕ) (d f : PlainCaseEvidence) → place < k → MayStay between olds k d was f → (n : Option ℕ) → slice_get ns k ≡ Some n → IsNumber between olds k d n → ⊥
          no_other k d f after may None at_k never = never was f may
          no_other k d f after may (Some v) at_k is = none_later was ns place none k after (at_k ∙ ap (λ x. Some (Some x)) (one_class k v was is.1.class may.class))

      pub never_stays : slice_get ns place ≡ Some None → (e : PlainCaseEvidence) → Stays between olds cs place c e → ⊥
      never_stays at e s = are.each place c None here at s.was e s.may

      pub stays_later : (was : ℕ) → slice_get ns place ≡ Some (Some was) → list_any (is_number was) (drop (place + 1) ns) ≡ true → (e : PlainCaseEvidence)
          → Stays between olds cs place c e → ⊥
      stays_later was at some e s =
          let l = some_later was ns place some in
          let d = slice_get_inside cs l.0 (omega (arith, slice_get_within ns l.0 (Some was) l.2, are.count)) in
          let m = are.each l.0 d.0 (Some was) d.1 l.2 in
          let same : was ≡ s.was = one_class place was s.was (are.each place c (Some was) here at).1.class s.may.class in
          s.last l.0 d.0 m.0 l.1 d.1 (subst (λ w. MayStay between olds l.0 d.0 w m.0) same m.1)

      pub never_missing : (was : ℕ) → slice_get ns place ≡ Some (Some was) → slice_get olds (was - 1) ≡ None → ⊥
      never_missing was at none =
          let m = are.each place c (Some was) here at in
          let clash : None ≡ Some m.0 = sym none ∙ m.1.at in
          cc

      -- the old case that is got at this place, if there is one
      module _ (was j : ℕ) (at : slice_get ns place ≡ Some (Some was)) (is : j ≡ was - 1) where
        pub stays_got : (r : Option (Bor PlainCaseEvidence)) → is_some r ≡ nat_lt j (length olds) → IfSome r (λ e. e.now ≡ get_or olds j e.now)
            → list_any (is_number was) (drop (place + 1) ns) ≡ false → IfSome r (λ e. Stays between olds cs place c e.now)
        stays_got None lies read none = tt
        stays_got (Some e) lies read none =
            let within : j < length olds = ltb-true j (length olds) (sym lies) in
            stays_by was e.now at none (ap (slice_get olds) (sym is) ∙ slice_get_read olds (length olds) j e.now refl within read)

        pub never_lost : (r : Option (Bor PlainCaseEvidence)) → is_some r ≡ nat_lt j (length olds) → IfNone r ((e : PlainCaseEvidence) → Stays between olds cs place c e → ⊥)
        never_lost None lies = absurd (never_missing was at (ap (slice_get olds) (sym is) ∙ slice_get_past olds j (ltb-false j (length olds) (sym lies))))
        never_lost (Some e) lies = tt
