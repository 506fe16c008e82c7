-- The greatest of some numbers.
use Rattle.std.proofs.Common.{◌≡◌, ℕ, zero, suc, ◌≤◌, List, [], ◌∷◌, Some, arith}
use Rattle.std.specs.Prelude.{max, slice_get}
use Rattle.std.specs.List.{fold}
use Rattle.list_law.specs.Members.{IsIn}
use Rattle.free_tags.specs.Taken.{greatest}

over : (a : ℕ) (ns : List ℕ) → a ≤ fold max a ns
over a [] = omega arith
over a (n ∷ ns) = omega (arith, over (max a n) ns)

each : (a : ℕ) (ns : List ℕ) (i n : ℕ) → slice_get ns i ≡ Some n → n ≤ fold max a ns
each a [] i n at = absurd cc
each a (m ∷ ns) zero n at =
    let same : m ≡ n = cc in
    omega (arith, over (max a m) ns, same)
each a (m ∷ ns) (suc i) n at = each (max a m) ns i n at

-- none of them is greater
pub greatest_is : (ns : List ℕ) (n : ℕ) → IsIn ns n → n ≤ greatest ns
greatest_is ns n is = each 0 ns is.0 n is.1
