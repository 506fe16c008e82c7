-- A text that is cut part by part has the parts that cutting it everywhere gives.
use Rattle.std.proofs.Common.{◌≡◌, ℕ, ◌+◌, ◌<◌, ◌≤◌, List, [], ◌∷◌, length, take, drop, Bool, true, false, Option, Some, None, refl, sym, ap, ap₂, ◌∙◌, arith, length-drop}
use Rattle.std.specs.Prelude.{◌==◌, not, if◌then◌else◌}
use Rattle.std.specs.List.{slice_split, position_or_len}
use Rattle.std.proofs.lemmas.Bool.{eqb-true, eqb-false, ne_eqb}
use Rattle.std.proofs.lemmas.List.Splits.{slice_split_none, slice_split_first, length-slice_split}
use Rattle.std.proofs.lemmas.List.Sums.{fails_before_first, prefix_len-le-length}
use Rattle.net_base.specs.Addresses.{cut_at}
use Rattle.config_lines.specs.Parts.{parts_left}

-- what stands before and behind the sign, and that it stands nowhere
abbrev pub halves : List ℕ → List ℕ → Option (List ℕ × List ℕ)
halves part rest = Some (part, rest)

abbrev pub no_halves : Option (List ℕ × List ℕ)
no_halves = None

-- the sign stands nowhere
pub split_nowhere : (sign : ℕ) (bs : List ℕ) → no_halves ≡ cut_at sign bs → slice_split (λ b. b == sign) bs ≡ bs ∷ []
split_nowhere sign bs h = by (position_or_len (λ b. b == sign) bs == length bs) refl h
  where
    by : (t : Bool) → (position_or_len (λ b. b == sign) bs == length bs) ≡ t
        → no_halves ≡ (if t then None else halves (take (position_or_len (λ b. b == sign) bs) bs) (drop (position_or_len (λ b. b == sign) bs + 1) bs))
        → slice_split (λ b. b == sign) bs ≡ bs ∷ []
    by true e k =
        let same : position_or_len (λ b. b == sign) bs ≡ length bs = eqb-true _ _ e in
        slice_split_none (λ b. b == sign) bs (λ i d m. fails_before_first (λ b. b == sign) bs i d (omega (arith, m, same)))
    by false e k = absurd cc

-- where the sign stands
pub cut_place : (sign : ℕ) (bs part rest : List ℕ) → halves part rest ≡ cut_at sign bs
    → (position_or_len (λ b. b == sign) bs < length bs) × (part ≡ take (position_or_len (λ b. b == sign) bs) bs) × (rest ≡ drop (position_or_len (λ b. b == sign) bs + 1) bs)
cut_place sign bs part rest h = by (position_or_len (λ b. b == sign) bs == length bs) refl h
  where
    by : (t : Bool) → (position_or_len (λ b. b == sign) bs == length bs) ≡ t
        → halves part rest ≡ (if t then None else halves (take (position_or_len (λ b. b == sign) bs) bs) (drop (position_or_len (λ b. b == sign) bs + 1) bs))
        → (position_or_len (λ b. b == sign) bs < length bs) × (part ≡ take (position_or_len (λ b. b == sign) bs) bs) × (rest ≡ drop (position_or_len (λ b. b == sign) bs + 1) bs)
    by true e k = absurd cc
    by false e k =
        let apart = eqb-false (position_or_len (λ b. b == sign) bs) (length bs) e in
        let p : List ℕ × List ℕ = (part, rest) in
        let q : List ℕ × List ℕ = (take (position_or_len (λ b. b == sign) bs) bs, drop (position_or_len (λ b. b == sign) bs + 1) bs) in
        let both : p ≡ q = cc in
        (omega (arith, apart, prefix_len-le-length (λ x. not (x == sign)) bs), ap (λ (p : List ℕ × List ℕ). p.0) both, ap (λ (p : List ℕ × List ℕ). p.1) both)

-- it stands behind the first part
pub split_there : (sign : ℕ) (bs part rest : List ℕ) → halves part rest ≡ cut_at sign bs → slice_split (λ b. b == sign) bs ≡ part ∷ slice_split (λ b. b == sign) rest
split_there sign bs part rest h =
    let p = cut_place sign bs part rest h in
    slice_split_first (λ b. b == sign) bs 0 p.0 ∙ ap₂ (λ (x y : List ℕ). x ∷ slice_split (λ b. b == sign) y) (sym p.1) (sym p.2)

-- the rest is shorter
pub cut_shorter : (sign : ℕ) (bs part rest : List ℕ) → halves part rest ≡ cut_at sign bs → length rest + 1 ≤ length bs
cut_shorter sign bs part rest h =
    let p = cut_place sign bs part rest h in
    omega (arith, p.0, ap length p.2, length-drop (position_or_len (λ b. b == sign) bs + 1) bs)

-- what is left has a part
pub parts_left-some : (sign : ℕ) (bs : List ℕ) → (length (parts_left sign (Some bs)) == 0) ≡ false
parts_left-some sign bs = ne_eqb (length (slice_split (λ b. b == sign) bs)) 0 (λ e. omega (arith, e, length-slice_split (λ b. b == sign) bs))
