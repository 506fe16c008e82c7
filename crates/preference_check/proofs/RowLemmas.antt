-- Numbers that are no greater than others, where they are there.
use Rattle.std.proofs.Common.{◌≡◌, ◌↔◌, ◌||◌, ℕ, ◌<◌, ◌≤◌, Bool, true, false, cond, eqb, leb, ltb, List, length, get_or, set, Option, Some, None, refl, sym, ap, subst}
use Rattle.std.proofs.Common.{◌∙◌, arith, IsTrue, le-leb, leb-true, ltb-true, ltb-false, get_or-set_same, get_or-set_other}
use Rattle.std.specs.Option.{is_some}
use Rattle.std.proofs.lemmas.Bool.{eqb-true, eqb-false, false_from_ne_true, false≢true}
use Rattle.std.proofs.lemmas.List.{get_or_past}
use Rattle.preference_check.specs.Rows.{is_upto}

-- what is no greater than a number is no greater than a greater one
pub is_upto_more : (o : Option ℕ) (v w : ℕ) → v ≤ w → is_upto o v ≡ true → is_upto o w ≡ true
is_upto_more None v w le h = h
is_upto_more (Some m) v w le h = le-leb m w (omega (arith, leb-true m v h, le))

pub is_upto_some : (o : Option ℕ) (v : ℕ) → is_upto o v ≡ true → is_some o ≡ true
is_upto_some None v h = h
is_upto_some (Some m) v h = refl

-- one number that is no greater than another is so wherever that one is
pub as_low : (one other : Option ℕ) (low bound : ℕ) → one ≡ Some low → other ≡ Some bound → IsTrue (leb low bound) ↔ ((n : ℕ) → IsTrue (is_upto other n) → IsTrue (is_upto one n))
as_low one other low bound is one_is = (
  λ h n b. ap (λ o. is_upto o n) is ∙ le-leb low n (omega (arith, leb-true low bound h, leb-true bound n (sym (ap (λ o. is_upto o n) one_is) ∙ b))),
  λ h. sym (ap (λ o. is_upto o bound) is) ∙ h bound (ap (λ o. is_upto o bound) one_is ∙ le-leb bound bound (omega arith)),
)

pub not_as_low : (one other : Option ℕ) (bound : ℕ) → one ≡ None → other ≡ Some bound → IsTrue false ↔ ((n : ℕ) → IsTrue (is_upto other n) → IsTrue (is_upto one n))
not_as_low one other bound none is = (
  λ h. absurd (false≢true h),
  λ h. sym (ap (λ o. is_upto o bound) none) ∙ h bound (ap (λ o. is_upto o bound) is ∙ le-leb bound bound (omega arith)),
)

-- one number that isn't less than another
pub not_less : (o : Option ℕ) (low number : ℕ) → o ≡ Some low → (ltb low number ≡ false) ↔ ((v : ℕ) → IsTrue (is_upto o v) → number ≤ v)
not_less o low number is = (
  λ h v up. omega (arith, ltb-false low number h, leb-true low v (sym (ap (λ x. is_upto x v) is) ∙ up)),
  λ h. false_from_ne_true _ (λ t. let le = h low (ap (λ x. is_upto x low) is ∙ le-leb low low (omega arith)) in absurd (omega (arith, ltb-true low number t, le))),
)

-- what holds of the first of a list's elements and of the next one
pub one_more : {Q : Type 0} → (before here : Bool) → (before ≡ true → Q) → (here ≡ true → Q) → (before || here) ≡ true → Q
one_more true here first next t = first refl
one_more false here first next t = next t

-- a place that is taken out now, and others that were before
pub out_more : (before here : Bool) (new old : Option ℕ) → new ≡ cond here None old → (before ≡ true → old ≡ None) → (before || here) ≡ true → new ≡ None
out_more before true new old is first t = is
out_more true false new old is first t = is ∙ first refl
out_more false false new old is first t = absurd (false≢true t)

-- a place that is kept now and was before
pub kept_more : (before here : Bool) (new old start : Option ℕ) → new ≡ cond here None old → (before ≡ false → old ≡ start) → (before || here) ≡ false → new ≡ start
kept_more false false new old start is first t = is ∙ first refl
kept_more false true new old start is first t = absurd (false≢true (sym t))
kept_more true here new old start is first t = absurd (false≢true (sym t))

-- a row without the number at a place
pub number_out : (row : List (Option ℕ)) (place p : ℕ) (here : Bool) → place < length row → eqb place p ≡ here → get_or (set row place None) p None ≡ cond here None (get_or row p None)
number_out row place p true within is = subst (λ k. get_or (set row place None) k None ≡ None) (eqb-true place p is) (get_or-set_same row place None None within)
number_out row place p false within is = get_or-set_other row place p None None (λ e. eqb-false place p is (sym e))

-- a place behind a row has none
pub none_past : (row : List (Option ℕ)) (place p : ℕ) (here : Bool) → length row ≤ place → eqb place p ≡ here → get_or row p None ≡ cond here None (get_or row p None)
none_past row place p true past is = get_or_past row p None (omega (arith, past, eqb-true place p is))
none_past row place p false past is = refl
