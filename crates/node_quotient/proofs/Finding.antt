-- The first element that passes a test.
use Rattle.std.proofs.Common.{◌≡◌, ◌+◌, ◌<◌, ℕ, Bool, false, List, length, get_or, drop, ap, ◌∙◌}
use Rattle.std.proofs.lemmas.Bool.{cond-false}
use Rattle.std.proofs.lemmas.List.{drop_more}
use Rattle.std.specs.List.{find}

-- an element that fails is passed over
pub find_next : (p : ℕ → Bool) (xs : List ℕ) (i d : ℕ) → i < length xs → p (get_or xs i d) ≡ false → find p (drop i xs) ≡ find p (drop (i + 1) xs)
find_next p xs i d lt fails = ap (find p) (drop_more xs i d lt) ∙ cond-false (p (get_or xs i d)) _ _ fails
