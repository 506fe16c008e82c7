-- The neighbours of each location, as far as the numbers go.
use Rattle.std.proofs.Common.{◌≡◌, ℕ, ◌<◌, List, map, length, get_or, Some, sym, ap, ◌∙◌, arith}
use Rattle.std.specs.Prelude.{option_map, slice_get}
use Rattle.std.proofs.lemmas.List.{length-map}
use Rattle.std.proofs.lemmas.Option.{same_Some, slice_get-get_or, slice_get-map}
use Rattle.net_base.specs.Locations.{numbers_below}
use Rattle.net_base.proofs.NumbersBelow.{length-numbers_below, slice_get-numbers_below}

-- a list that was made for each number
pub made_length : (all : List (List ℕ)) (f : ℕ → List ℕ) (n : ℕ) → all ≡ map f (numbers_below n) → length all ≡ n
made_length all f n e = ap length e ∙ length-map (numbers_below n) f ∙ length-numbers_below n

pub made_at : (all : List (List ℕ)) (f : ℕ → List ℕ) (n k : ℕ) (y : List ℕ) → all ≡ map f (numbers_below n) → k < n → y ≡ get_or all k y → y ≡ f k
made_at all f n k y e less is =
    let size = made_length all f n e in
    same_Some _ _
    (ap Some is ∙ sym (slice_get-get_or all k y (omega (arith, size, less)))
    ∙ ap (λ l. slice_get l k) e ∙ slice_get-map f (numbers_below n) k ∙ ap (option_map f) (slice_get-numbers_below n k less))
