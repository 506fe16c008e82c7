-- Tests of the nodes of a list are tests of the nodes among them, and what is marked has a mark.
use Rattle.std.proofs.Common.{◌≡◌, ℕ, ◌<◌, Bool, true, false, eqb, List, [], ◌∷◌, length, refl, ap, ◌∙◌, inl, inr}
use Rattle.std.specs.List.{list_any}
use Rattle.std.proofs.lemmas.Bool.{both_ways, cases_lt, eq-eqb, eqb-true, or_cases, or_left, or_right}
use Rattle.std.proofs.lemmas.List.{get_or_past}
use Rattle.reach_prune.specs.Searches.{is_among, is_marked}

pub member_passes : (p : ℕ → Bool) (xs : List ℕ) (x : ℕ) → is_among xs x ≡ true → p x ≡ true → list_any p xs ≡ true
member_passes p [] x h e = absurd (cc)
member_passes p (y ∷ ys) x h e = elim (or_cases (eqb y x) _ h) [
  | inl here ↦ or_left _ _ (ap p (eqb-true y x here) ∙ e)
  | inr there ↦ or_right _ _ (member_passes p ys x there e)
]

pub passing_member : (p : ℕ → Bool) (xs : List ℕ) → list_any p xs ≡ true → (x : ℕ) × (is_among xs x ≡ true) × (p x ≡ true)
passing_member p [] h = absurd (cc)
passing_member p (y ∷ ys) h = elim (or_cases (p y) _ h) [
  | inl here ↦ (y, or_left _ _ (eq-eqb y y refl), here)
  | inr there ↦ (let r : (x : ℕ) × (is_among ys x ≡ true) × (p x ≡ true) = passing_member p ys there in (r.0, or_right _ _ r.1, r.2))
]

pub marked_below : (marks : List Bool) (n : ℕ) → is_marked marks n ≡ true → n < length marks
marked_below marks n h = elim (cases_lt n (length marks)) [ inl lt ↦ lt | inr past ↦ absurd (both_ways _ (get_or_past marks n false past) h) ]
