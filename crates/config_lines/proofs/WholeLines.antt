-- All lines but the last, and the last.
use Rattle.std.proofs.Common.{◌≡◌, ℕ, suc, ◌+◌, ◌-◌, ◌<◌, List, [], ◌∷◌, ◌++◌, length, take, refl, ap, arith, length-append}
use Rattle.std.specs.Prelude.{◌≢◌, slice_index_or}
use Rattle.config_lines.specs.LineLines.{whole_lines, last_line}

pub whole_lines-cons : (line : List ℕ) (more : List (List ℕ)) → 0 < length more → whole_lines (line ∷ more) ≡ line ∷ whole_lines more
whole_lines-cons line [] some = absurd (omega (arith, some))
whole_lines-cons line (next ∷ more) some =
    let e : length (line ∷ next ∷ more) - 1 ≡ suc (length (next ∷ more) - 1) = omega arith in
    ap (λ (n : ℕ). take n (line ∷ next ∷ more)) e

pub last_line-cons : (line : List ℕ) (more : List (List ℕ)) → 0 < length more → last_line (line ∷ more) ≡ last_line more
last_line-cons line [] some = absurd (omega (arith, some))
last_line-cons line (next ∷ more) some =
    let e : length (line ∷ next ∷ more) - 1 ≡ suc (length (next ∷ more) - 1) = omega arith in
    ap (λ (n : ℕ). slice_index_or (line ∷ next ∷ more) n []) e

pub last_split : (more : List (List ℕ)) → length more ≢ 0 → more ≡ whole_lines more ++ last_line more ∷ []
last_split [] some = absurd (some refl)
last_split (x ∷ []) some = refl
last_split (x ∷ y ∷ more) some =
    let k : length (x ∷ y ∷ more) - 1 ≡ suc (length (y ∷ more) - 1) = omega arith in
    rw k (ap (λ (xs : List (List ℕ)). x ∷ xs) (last_split (y ∷ more) (λ e. omega (arith, e))))

-- of some lines and one more
pub whole_push : (ts : List (List ℕ)) (x : List ℕ) → (whole_lines (ts ++ x ∷ []) ≡ ts) × (last_line (ts ++ x ∷ []) ≡ x)
whole_push [] x = (refl, refl)
whole_push (t ∷ ts) x =
    let long : length (ts ++ x ∷ []) ≡ length ts + 1 = length-append ts (x ∷ []) in
    let k : length ((t ∷ ts) ++ x ∷ []) - 1 ≡ suc (length (ts ++ x ∷ []) - 1) = omega (arith, long) in
    let rest = whole_push ts x in
    (rw k (ap (λ (xs : List (List ℕ)). t ∷ xs) rest.0), rw k rest.1)
