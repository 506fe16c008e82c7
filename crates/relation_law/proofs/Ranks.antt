-- Ranks in their order.
use Rattle.std.proofs.Common.{◌≡◌, ◌≤◌, ℕ, true, Option, Some, None, arith, refl}
use Rattle.std.proofs.lemmas.Bool.{leb-true, le-leb}
use Rattle.relation_law.specs.Relations.{no_worse}

pub no_worse_refl : (i : Option ℕ) → no_worse i i ≡ true
no_worse_refl None = refl
no_worse_refl (Some i) = le-leb i i (omega arith)

pub no_worse_trans : (i j k : Option ℕ) → no_worse i j ≡ true → no_worse j k ≡ true → no_worse i k ≡ true
no_worse_trans i j None a b = refl
no_worse_trans i None (Some k) a b = absurd (cc)
no_worse_trans None (Some j) (Some k) a b = absurd (cc)
no_worse_trans (Some i) (Some j) (Some k) a b = le-leb i k (omega (arith, leb-true i j a, leb-true j k b))

-- what is no worse than a rank is a rank
pub no_worse_some : (i : Option ℕ) (k : ℕ) → no_worse i (Some k) ≡ true → (j : ℕ) × (i ≡ Some j) × (j ≤ k)
no_worse_some None k h = absurd (cc)
no_worse_some (Some j) k h = (j, refl, leb-true j k h)

pub no_worse_from : (i j : Option ℕ) → ((k : ℕ) → j ≡ Some k → (l : ℕ) × (i ≡ Some l) × (l ≤ k)) → no_worse i j ≡ true
no_worse_from i None h = refl
no_worse_from i (Some k) h = let x : (l : ℕ) × (i ≡ Some l) × (l ≤ k) = h k refl in rw x.1 (le-leb x.0 k x.2)

pub no_worse_at : (i j : Option ℕ) (k l : ℕ) → i ≡ Some k → j ≡ Some l → k ≤ l → no_worse i j ≡ true
no_worse_at i j k l a b h = rw (a, b) (le-leb k l h)
