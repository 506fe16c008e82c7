-- Where two texts differ first.
use Rattle.std.specs.Prelude.{ℕ, suc, ◌==◌, List, [], ◌∷◌, if◌then◌else◌}

-- the number, from k, of the first line at which two texts differ; the line after the shorter one where that is a front of the other
abbrev pub difference_from : ℕ → List ℕ → List ℕ → ℕ
difference_from k [] ys = k
difference_from k (a ∷ xs) [] = k
difference_from k (a ∷ xs) (b ∷ ys) = if a == b then difference_from (if a == 10 then suc k else k) xs ys else k

-- the same, from 1
abbrev pub first_difference : List ℕ → List ℕ → ℕ
first_difference xs ys = difference_from 1 xs ys
