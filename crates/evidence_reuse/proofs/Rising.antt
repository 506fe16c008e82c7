-- What is raised by as much, and what that says.
use Rattle.std.proofs.Common.{◌≡◌, ℕ, Bool, true, false, List, [], ◌∷◌, map, length, refl, ap₂, arith}
use Rattle.std.specs.Prelude.{◌==◌, ◌&&◌}
use Rattle.std.proofs.lemmas.Bool.{and_parts, eqb-true, false≢true}
use Rattle.evidence_renewal.specs.Renewed.{raised}
use Rattle.evidence_reuse.specs.Staying.{are_raised}

pub are_raised-is : (by : ℕ) (ns ms : List ℕ) → are_raised by ns ms ≡ true → ms ≡ map (raised by) ns
are_raised-is by [] [] h = refl
are_raised-is by [] (m ∷ ms) h = absurd (false≢true h)
are_raised-is by (n ∷ ns) [] h = absurd (false≢true h)
are_raised-is by (n ∷ ns) (m ∷ ms) h =
    let parts = and_parts (m == raised by n) (are_raised by ns ms) h in
    ap₂ (λ x xs. x ∷ xs) (eqb-true m (raised by n) parts.0) (are_raised-is by ns ms parts.1)

-- as many of both
pub raised_apart : (by : ℕ) (ns ms : List ℕ) → (length ns ≡ length ms → ⊥) → false ≡ are_raised by ns ms
raised_apart by [] [] long = absurd (long refl)
raised_apart by [] (m ∷ ms) long = refl
raised_apart by (n ∷ ns) [] long = refl
raised_apart by (n ∷ ns) (m ∷ ms) long = cut (m == raised by n) (raised_apart by ns ms (λ e. long (omega (arith, e))))
  where
    cut : (b : Bool) → false ≡ are_raised by ns ms → false ≡ (b && are_raised by ns ms)
    cut true later = later
    cut false later = refl
