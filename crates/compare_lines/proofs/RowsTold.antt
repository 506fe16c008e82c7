-- When all rows are told, or all walks.
use Rattle.std.proofs.Common.{◌≡◌, ℕ, ◌≤◌, List, [], ◌∷◌, length, drop, refl, ap, ◌∙◌}
use Rattle.std.proofs.lemmas.List.{drop_all}
use Rattle.net_base.specs.Network.{PlainNet}
use Rattle.compare_base.specs.declared.rows.Row.{Row}
use Rattle.compare_lines.specs.Rows.{row_lines}

module _ (net : PlainNet) where
  pub row_over : (rows : List Row) (walks : List (List ℕ)) (i : ℕ) → length rows ≤ i → row_lines net (drop i rows) (drop i walks) ≡ []
  row_over rows walks i past = ap (λ (later : List Row). row_lines net later (drop i walks)) (drop_all i rows past)

  no_walks : (rows : List Row) → row_lines net rows [] ≡ []
  no_walks [] = refl
  no_walks (row ∷ rows) = refl

  pub row_none : (rows : List Row) (walks : List (List ℕ)) (i : ℕ) → length walks ≤ i → row_lines net (drop i rows) (drop i walks) ≡ []
  row_none rows walks i past = ap (row_lines net (drop i rows)) (drop_all i walks past) ∙ no_walks (drop i rows)
