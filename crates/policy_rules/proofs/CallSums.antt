-- How many calls the steps of two sides have.
use Rattle.std.proofs.Common.{◌≡◌, ℕ, ◌+◌, List, [], ◌∷◌, ◌++◌, arith}
use Rattle.std.specs.Prelude.{sum_by}
use Rattle.std.proofs.lemmas.List.Sums.{sum_by-cons, sum_by-append}
use Rattle.policy_grammar.specs.Raw.{Step}
use Rattle.policy_rules.specs.Counts.{call_amount}

-- beside those of the sides a step that is no call has none
pub calls_of_sides : (xs ys : List Step) (s : Step) (m n : ℕ) → sum_by call_amount xs ≡ m → sum_by call_amount ys ≡ n → call_amount s ≡ 0 → sum_by call_amount (xs ++ ys ++ s ∷ []) ≡ m + n
calls_of_sides xs ys s m n a b none = omega (arith, sum_by-append call_amount (xs ++ ys) (s ∷ []), sum_by-append call_amount xs ys, sum_by-cons call_amount s [], a, b, none)
