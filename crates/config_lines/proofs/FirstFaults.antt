-- Of lines that are taken one after another the first fault is told.
use Rattle.std.proofs.Common.{◌≡◌, ℕ, ◌+◌, List, [], ◌∷◌, ◌++◌, length, Result, Ok, Err, refl, ◌∙◌, ap, ap₂, arith}
use Rattle.net_base.specs.Steps.{◌>>=◌}
use Rattle.net_base.proofs.StepLemmas.{bind_ok, ok_same}
use Rattle.config_lines.specs.LineLines.{line_by_line}

module _ {R F : Type 0} (with_line : ℕ → R → List ℕ → Result R F) where
  -- the lines before one line are taken, and that one isn't
  pub record FirstFrom (n : ℕ) (r : R) (texts : List (List ℕ)) (e : F) : Type 0 where
    pub taken : List (List ℕ)
    pub line : List ℕ
    pub more : List (List ℕ)
    pub reading : R
    pub whole : texts ≡ taken ++ line ∷ more
    pub fine : line_by_line with_line n r taken ≡ Ok reading
    pub wrong : with_line (length taken + n) reading line ≡ Err e

  pub first_from : (n : ℕ) (r : R) (texts : List (List ℕ)) (e : F) → line_by_line with_line n r texts ≡ Err e → FirstFrom n r texts e
  first_from n r [] e h = absurd cc
  first_from n r (t ∷ ts) e h = by (with_line n r t) refl h (λ s. first_from (n + 1) s ts e)
    where
      by : (o : Result R F) → with_line n r t ≡ o → (o >>= (λ s. line_by_line with_line (n + 1) s ts)) ≡ Err e
          → ((s : R) → line_by_line with_line (n + 1) s ts ≡ Err e → FirstFrom (n + 1) s ts e) → FirstFrom n r (t ∷ ts) e
      by (Err d) is k later =
          let here : 0 + n ≡ n = omega arith in
          record { taken = []; line = t; more = ts; reading = r; whole = refl; fine = refl; wrong = ap (λ (m : ℕ). with_line m r t) here ∙ is ∙ k }
      by (Ok s) is k later =
          let rest = later s k in
          let place : length (t ∷ rest.taken) + n ≡ length rest.taken + (n + 1) = omega arith in
          record {
            taken = t ∷ rest.taken;
            line = rest.line;
            more = rest.more;
            reading = rest.reading;
            whole = ap (λ (x : List (List ℕ)). t ∷ x) rest.whole;
            fine = ap (λ (o : Result R F). o >>= (λ s. line_by_line with_line (n + 1) s rest.taken)) is ∙ rest.fine;
            wrong = ap (λ (m : ℕ). with_line m rest.reading rest.line) place ∙ rest.wrong;
          }

  pub fault_from : (n : ℕ) (r s : R) (taken more : List (List ℕ)) (line : List ℕ) (e : F) → line_by_line with_line n r taken ≡ Ok s
      → with_line (length taken + n) s line ≡ Err e → line_by_line with_line n r (taken ++ line ∷ more) ≡ Err e
  fault_from n r s [] more line e h k =
      let same : r ≡ s = ok_same r s h in
      let here : n ≡ 0 + n = omega arith in
      ap (λ (o : Result R F). o >>= (λ q. line_by_line with_line (n + 1) q more)) (ap₂ (λ (m : ℕ) (q : R). with_line m q line) here same ∙ k)
  fault_from n r s (t ∷ ts) more line e h k =
      let b = bind_ok (with_line n r t) (λ q. line_by_line with_line (n + 1) q ts) s h in
      let place : length ts + (n + 1) ≡ length (t ∷ ts) + n = omega arith in
      ap (λ (o : Result R F). o >>= (λ q. line_by_line with_line (n + 1) q (ts ++ line ∷ more))) b.1
      ∙ fault_from (n + 1) b.0 s ts more line e b.2 (ap (λ (m : ℕ). with_line m s line) place ∙ k)
