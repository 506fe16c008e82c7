-- Two texts that are gone over byte by byte.
use Rattle.std.proofs.Common.{◌≡◌, ℕ, suc, ◌+◌, ◌<◌, ◌≤◌, List, [], ◌∷◌, length, get_or, drop, true, refl, ◌∙◌, arith, min, inl, inr, length-drop}
use Rattle.std.specs.Prelude.{◌==◌}
use Rattle.std.proofs.Math.Seq.{drop-cons}
use Rattle.std.proofs.lemmas.Bool.{cases_lt}
use Rattle.text_parts.specs.Difference.{difference_from}

module _ (xs ys : List ℕ) (i k : ℕ) (in_x : i < length xs) (in_y : i < length ys) where
  abbrev a : ℕ
  a = get_or xs i 0

  abbrev b : ℕ
  b = get_or ys i 0

  cut : difference_from k (drop i xs) (drop i ys) ≡ difference_from k (a ∷ drop (i + 1) xs) (b ∷ drop (i + 1) ys)
  cut = let next : i + 1 ≡ suc i = omega arith in rw (next, drop-cons xs i 0, drop-cons ys i 0) refl

  pub line_here : (a == b) ≡ true → (a == 10) ≡ true → difference_from k (drop i xs) (drop i ys) ≡ difference_from (k + 1) (drop (i + 1) xs) (drop (i + 1) ys)
  line_here same line = let next : k + 1 ≡ suc k = omega arith in cut ∙ rw (same, line, next) refl

no_more : (xs ys : List ℕ) (k : ℕ) → (length xs ≡ 0) → difference_from k xs ys ≡ k
no_more [] ys k e = refl
no_more (x ∷ xs) ys k e = absurd (omega (arith, e))

no_other : (xs ys : List ℕ) (k : ℕ) → (length ys ≡ 0) → difference_from k xs ys ≡ k
no_other [] ys k e = refl
no_other (x ∷ xs) [] k e = refl
no_other (x ∷ xs) (y ∷ ys) k e = absurd (omega (arith, e))

-- behind the shorter text
pub ended : (xs ys : List ℕ) (i k : ℕ) → min (length xs) (length ys) ≤ i → difference_from k (drop i xs) (drop i ys) ≡ k
ended xs ys i k le = elim (cases_lt i (length xs)) [
  | inr out ↦ no_more (drop i xs) (drop i ys) k (omega (arith, length-drop i xs, out))
  | inl in_x ↦ no_other (drop i xs) (drop i ys) k (omega (arith, length-drop i ys, le, in_x))
]
