-- Derivatives of terms by classes of locations.
use Rattle.std.specs.Prelude.{◌≡◌, ℕ, ◌<◌, ◌&&◌, ◌==◌, Bool, IsTrue, List, length, Some, IfSome, slice_get}
use Rattle.std.specs.Ordering.{is_eq}
use Rattle.indexmap.specs.IndexMap.{IndexMap, get}
use Rattle.path_exprs.specs.Expression.{Expression}
use Rattle.path_exprs.specs.Derivative.{derivative}
use Rattle.path_exprs.specs.Order.{compare}
use Rattle.path_terms.specs.Terms.{at}

-- the same term and the same class
abbrev pub same_key : (ℕ × ℕ) → (ℕ × ℕ) → Bool
same_key a b = a.0 == b.0 && a.1 == b.1

-- for a term and a class, the derivative of the term by each location of the class
abbrev pub IsDerivative : List ℕ → List Expression → (ℕ × ℕ) → ℕ → Type 0
IsDerivative classes values key d =
    (key.0 < length values) × (d < length values)
    × ((x : ℕ) → slice_get classes x ≡ Some key.1 → IsTrue (is_eq (compare (at values d) (derivative x (at values key.0)))))

-- each entry has the derivative of its term by its class
abbrev pub AreDerivatives : {S : Type 0} → List ℕ → List Expression → IndexMap (ℕ × ℕ) ℕ S → Type 0
AreDerivatives classes values derived = (key : ℕ × ℕ) → IfSome (get same_key derived key) (λ d. IsDerivative classes values key d)
