-- Tests of the nodes of a list are tests of all nodes.
use Rattle.std.proofs.Common.{◌≡◌, ℕ, ◌<◌, true, eqb, List, [], ◌∷◌, All, arith, inl, inr}
use Rattle.std.proofs.lemmas.Bool.{or_cases, eqb-true}
use Rattle.std.proofs.lemmas.List.Elements.{All-head, All-tail}
use Rattle.reach_prune.specs.Searches.{is_among}

pub among_below : (size : ℕ) (xs : List ℕ) (x : ℕ) → All (λ n. n < size) xs → is_among xs x ≡ true → x < size
among_below size [] x all h = absurd (cc)
among_below size (y ∷ ys) x all h = elim (or_cases (eqb y x) _ h) [
  | inl here ↦ (let e = eqb-true y x here in let head : y < size = All-head (λ n. n < size) y ys all in omega arith)
  | inr there ↦ among_below size ys x (All-tail (λ n. n < size) y ys all) there
]
