-- What is made of lines one after another.
use Rattle.std.proofs.Common.{◌≡◌, ℕ, ◌+◌, List, [], ◌∷◌, ◌++◌, map, Result, Ok, ◌∙◌, ap}
use Rattle.std.specs.List.{AllByRecursion}
use Rattle.net_base.specs.Steps.{◌>>=◌}
use Rattle.net_base.proofs.StepLemmas.{bind_ok, ok_same}
use Rattle.config_lines.specs.LineLines.{line_by_line}

abbrev pub run : {R L M : Type 0} → (R → L → Result R M) → R → List L → Result R M
run after r [] = Ok r
run after r (l ∷ ls) = after r l >>= (λ s. run after s ls)

module _ {R L M : Type 0} (after : R → L → Result R M) where
  pub run_step : (r s t : R) (l : L) (ls : List L) → after r l ≡ Ok s → run after s ls ≡ Ok t → run after r (l ∷ ls) ≡ Ok t
  run_step r s t l ls h k = ap (λ (o : Result R M). o >>= (λ q. run after q ls)) h ∙ k

  pub run_append : (r s t : R) (xs ys : List L) → run after r xs ≡ Ok s → run after s ys ≡ Ok t → run after r (xs ++ ys) ≡ Ok t
  run_append r s t [] ys h k = let same : r ≡ s = ok_same r s h in ap (λ (q : R). run after q ys) same ∙ k
  run_append r s t (x ∷ xs) ys h k =
      let b = bind_ok (after r x) (λ q. run after q xs) s h in
      run_step r b.0 t x (xs ++ ys) b.1 (run_append b.0 s t xs ys b.2 k)

  -- the texts of lines that are read where they stand, and are taken
  module _ {F : Type 0} (with_line : ℕ → R → List ℕ → Result R F) (text : L → List ℕ) (P : R → Type 0) (Q : L → Type 0)
      (reads : (n : ℕ) (r s : R) (l : L) → P r → Q l → after r l ≡ Ok s → with_line n r (text l) ≡ Ok s)
      (keeps : (r s : R) (l : L) → P r → Q l → after r l ≡ Ok s → P s) where
    pub run_taken : (n : ℕ) (r s : R) (ls : List L) → P r → AllByRecursion Q ls → run after r ls ≡ Ok s → line_by_line with_line n r (map text ls) ≡ Ok s
    run_taken n r s [] p all h = let same : r ≡ s = ok_same r s h in ap (λ (q : R). let o : Result R F = Ok q in o) same
    run_taken n r s (l ∷ ls) p all h =
        let b = bind_ok (after r l) (λ q. run after q ls) s h in
        ap (λ (o : Result R F). o >>= (λ q. line_by_line with_line (n + 1) q (map text ls))) (reads n r b.0 l p all.0 b.1)
        ∙ run_taken (n + 1) b.0 s ls (keeps r b.0 l p all.0 b.1) all.1 b.2
