-- A group that joins others.
use Rattle.std.proofs.Common.{◌≡◌, ℕ, zero, suc, ◌+◌, ◌<◌, ◌≤◌, Bool, true, false, List, [], ◌∷◌, ◌++◌, length, get_or, set, drop, refl, sym, ap, ◌∙◌, arith, inl, inr}
use Rattle.std.specs.Prelude.{if◌then◌else◌}
use Rattle.std.specs.List.{position_or_len}
use Rattle.std.proofs.lemmas.Bool.{cases_Bool}
use Rattle.list_law.proofs.Positions.{position_or_len-first, position_or_len-next}
use Rattle.promises_report.specs.declared.group.Group.{Group}
use Rattle.promises_report.specs.Groups.{fits, joined, merged}

-- ---- the place of the first that passes a test

pub position_next : {A : Type 0} (p : A → Bool) (xs : List A) (i : ℕ) (d : A) → i < length xs → p (get_or xs i d) ≡ false
    → position_or_len p (drop i xs) ≡ 1 + position_or_len p (drop (suc i) xs)
position_next p [] i d within missed = absurd (omega arith)
position_next p (x ∷ xs) zero d within missed = position_or_len-next p x xs missed
position_next p (x ∷ xs) (suc i) d within missed = position_next p xs i d (omega arith) missed

pub position_here : {A : Type 0} (p : A → Bool) (xs : List A) (i : ℕ) (d : A) → i < length xs → p (get_or xs i d) ≡ true → position_or_len p (drop i xs) ≡ 0
position_here p [] i d within met = absurd (omega arith)
position_here p (x ∷ xs) zero d within met = position_or_len-first p x xs met
position_here p (x ∷ xs) (suc i) d within met = position_here p xs i d (omega arith) met

pub position_past : {A : Type 0} (p : A → Bool) (xs : List A) (i : ℕ) → length xs ≤ i → position_or_len p (drop i xs) ≡ 0
position_past p [] zero past = refl
position_past p [] (suc i) past = refl
position_past p (x ∷ xs) zero past = absurd (omega arith)
position_past p (x ∷ xs) (suc i) past = position_past p xs i (omega arith)

-- ---- groups

here : (x g : Group) (gs : List Group) → fits g x ≡ true → joined x (g ∷ gs) ≡ merged g x ∷ gs
here x g gs is = ap (λ b. if b then merged g x ∷ gs else g ∷ joined x gs) is

later : (x g : Group) (gs : List Group) → fits g x ≡ false → joined x (g ∷ gs) ≡ g ∷ joined x gs
later x g gs is = ap (λ b. if b then merged g x ∷ gs else g ∷ joined x gs) is

-- it joins the first one that it fits
pub joined_there : (x : Group) (gs : List Group) (d : Group) (i : ℕ) → i ≡ position_or_len (λ g. fits g x) gs → i < length gs
    → joined x gs ≡ set gs i (merged (get_or gs i d) x)
joined_there x [] d i is within = absurd (omega arith)
joined_there x (g ∷ gs) d zero is within = elim (cases_Bool (fits g x)) [
  | inl met ↦ here x g gs met
  | inr missed ↦ absurd (omega (arith, is, position_or_len-next (λ h. fits h x) g gs missed))
]
joined_there x (g ∷ gs) d (suc i) is within = elim (cases_Bool (fits g x)) [
  | inl met ↦ absurd (omega (arith, is, position_or_len-first (λ h. fits h x) g gs met))
  | inr missed ↦
      let next : suc i ≡ 1 + position_or_len (λ h. fits h x) gs = is ∙ position_or_len-next (λ h. fits h x) g gs missed in
      later x g gs missed ∙ ap (λ hs. g ∷ hs) (joined_there x gs d i (omega (arith, next)) (omega arith))
]

-- the same as the program writes it: g is the group as it was, and h as it is then
pub joined_as : (x : Group) (gs : List Group) (i : ℕ) (g h : Group) → i ≡ position_or_len (λ g. fits g x) gs → i < length gs → g ≡ get_or gs i g
    → h ≡ merged g x → set gs i h ≡ joined x gs
joined_as x gs i g h is within read grown =
    ap (set gs i) grown ∙ ap (λ d. set gs i (merged d x)) read ∙ sym (joined_there x gs g i is within)

-- or stands at the end
pub joined_new : (x : Group) (gs : List Group) (i : ℕ) → i ≡ position_or_len (λ g. fits g x) gs → length gs ≤ i → joined x gs ≡ gs ++ x ∷ []
joined_new x [] i is past = refl
joined_new x (g ∷ gs) zero is past = absurd (omega arith)
joined_new x (g ∷ gs) (suc i) is past = elim (cases_Bool (fits g x)) [
  | inl met ↦ absurd (omega (arith, is, position_or_len-first (λ h. fits h x) g gs met))
  | inr missed ↦
      let next : suc i ≡ 1 + position_or_len (λ h. fits h x) gs = is ∙ position_or_len-next (λ h. fits h x) g gs missed in
      later x g gs missed ∙ ap (λ hs. g ∷ hs) (joined_new x gs i (omega (arith, next)) (omega arith))
]
