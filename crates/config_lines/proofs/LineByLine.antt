-- Lines are taken one after another, as they are cut off a text.
use Rattle.std.proofs.Common.{◌≡◌, ℕ, ◌+◌, ◌≤◌, List, [], ◌∷◌, ◌++◌, length, Result, Ok, Err, refl, sym, ◌∙◌, ap, arith}
use Rattle.net_base.specs.Addresses.{cut_at}
use Rattle.net_base.specs.Steps.{◌>>=◌}
use Rattle.net_base.proofs.StepLemmas.{bind_ok, ok_same}
use Rattle.config_lines.proofs.CutParts.{halves, no_halves, cut_shorter}
use Rattle.config_lines.specs.LineLines.{lines_of, whole_lines, last_line, line_by_line}
use Rattle.config_lines.proofs.CutLines.{whole_lines_there, last_line_there, whole_lines_nowhere, last_line_nowhere}

module _ {R F : Type 0} (with_line : ℕ → R → List ℕ → Result R F) where
  pub line_by_line-next : (n : ℕ) (r s : R) (line : List ℕ) (more : List (List ℕ)) (whole : Result R F) → with_line n r line ≡ Ok s
      → line_by_line with_line n r (line ∷ more) ≡ whole → line_by_line with_line (n + 1) s more ≡ whole
  line_by_line-next n r s line more whole here h = rw here at h

  pub line_by_line-append : (n : ℕ) (r s t : R) (xs ys : List (List ℕ)) → line_by_line with_line n r xs ≡ Ok s
      → ((m : ℕ) → line_by_line with_line m s ys ≡ Ok t) → line_by_line with_line n r (xs ++ ys) ≡ Ok t
  line_by_line-append n r s t [] ys h k = let same : r ≡ s = ok_same r s h in ap (λ (q : R). line_by_line with_line n q ys) same ∙ k n
  line_by_line-append n r s t (x ∷ xs) ys h k =
      let b = bind_ok (with_line n r x) (λ q. line_by_line with_line (n + 1) q xs) s h in
      ap (λ (o : Result R F). o >>= (λ q. line_by_line with_line (n + 1) q (xs ++ ys))) b.1 ∙ line_by_line-append (n + 1) b.0 s t xs ys b.2 k

  -- how far a text is taken: what is left, from this number and this reading on, gives what the text gives from the first ones on
  pub record IsTaken (first : ℕ) (start : R) (text : List ℕ) (n : ℕ) (r : R) (left : List ℕ) : Type 0 where
    pub feeds : n + length left ≤ length text + first
    pub read : line_by_line with_line n r (whole_lines (lines_of left)) ≡ line_by_line with_line first start (whole_lines (lines_of text))
    pub last : last_line (lines_of left) ≡ last_line (lines_of text)

  module _ {first : ℕ} {start : R} {text : List ℕ} {n : ℕ} {r : R} {left : List ℕ} (so_far : IsTaken first start text n r left) where
    -- the line here makes what was read more
    pub one_taken : (s : R) (line rest : List ℕ) → halves line rest ≡ cut_at 10 left → with_line n r line ≡ Ok s → IsTaken first start text (n + 1) s rest
    one_taken s line rest cut here = record {
      feeds = omega (arith, so_far.feeds, cut_shorter 10 left line rest cut);
      read =
          line_by_line-next n r s line (whole_lines (lines_of rest)) _ here
          (sym (ap (line_by_line with_line n r) (whole_lines_there left line rest cut)) ∙ so_far.read);
      last = sym (last_line_there left line rest cut) ∙ so_far.last;
    }

    -- it has a fault
    pub fault_stops : (line rest : List ℕ) (e : F) → halves line rest ≡ cut_at 10 left → with_line n r line ≡ Err e → line_by_line with_line first start (whole_lines (lines_of text)) ≡ Err e
    fault_stops line rest e cut here = sym so_far.read ∙ ap (line_by_line with_line n r) (whole_lines_there left line rest cut) ∙ rw here refl

    -- there is none
    pub all_taken : no_halves ≡ cut_at 10 left → (line_by_line with_line first start (whole_lines (lines_of text)) ≡ Ok r) × (last_line (lines_of text) ≡ left)
    all_taken cut = (sym so_far.read ∙ ap (line_by_line with_line n r) (whole_lines_nowhere left cut), sym so_far.last ∙ last_line_nowhere left cut)
