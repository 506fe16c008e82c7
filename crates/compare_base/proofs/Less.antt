-- The order of numbers, none last.
use Rattle.std.proofs.Common.{ℕ, arith, Option, Some, None}
use Rattle.compare_base.specs.Order.{IsLess}

pub less_itself : (a : Option ℕ) → IsLess a a → ⊥
less_itself (Some i) less = absurd (omega (arith, less))
less_itself None less = less

pub less_through : (a b c : Option ℕ) → IsLess a b → IsLess b c → IsLess a c
less_through (Some i) (Some j) (Some k) one other = omega (arith, one, other)
less_through (Some i) (Some j) None one other = tt
less_through (Some i) None c one other = absurd other
less_through None b c one other = absurd one
