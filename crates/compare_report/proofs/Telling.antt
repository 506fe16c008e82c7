-- What is told of a list, pair by pair.
use Rattle.std.proofs.Common.{◌≡◌, ℕ, ◌+◌, ◌<◌, List, ◌∷◌, ◌++◌, length, take, drop, get_or, sym, ap, ◌∙◌, Bor, add-one, drop-cons}
use Rattle.std.specs.List.{flat_map}
use Rattle.std.proofs.lemmas.List.{take_more}
use Rattle.net_base.specs.Network.{PlainNet}
use Rattle.net_base.specs.Prefixes.{PlainPrefix}
use Rattle.comparison.specs.declared.values.ComparedPair.{ComparedPair}
use Rattle.compare_report.specs.Changes.{lines_at, lines_from}
use Rattle.compare_report.specs.Groups.{seen}
use Rattle.compare_report.specs.Kinds.{all_kind_lines, kind_lines_unless}
use Rattle.compare_report.proofs.Borrowed.{seen_more, seen_next}

module _ (net : PlainNet) (order : List PlainPrefix) where
  pub lines_next : (xs : List ComparedPair) (i : ℕ) (d : ComparedPair) → i < length xs
      → lines_from net order (take i xs) (drop i xs)
      ≡ lines_at net order (take i xs) (get_or xs i d) (drop (i + 1) xs) ++ lines_from net order (take (i + 1) xs) (drop (i + 1) xs)
  lines_next xs i d low =
      let later : drop i xs ≡ get_or xs i d ∷ drop (i + 1) xs = drop-cons xs i d low ∙ ap (λ k. get_or xs i d ∷ drop k xs) (sym (add-one i)) in
      ap (lines_from net order (take i xs)) later
      ∙ ap (λ (before : List ComparedPair). lines_at net order (take i xs) (get_or xs i d) (drop (i + 1) xs) ++ lines_from net order before (drop (i + 1) xs))
      (sym (take_more xs i d low))

  pub kinds_next : (group : List ComparedPair) (xs : List (Bor ComparedPair)) (i : ℕ) (d : Bor ComparedPair) → i < length xs
      → all_kind_lines net order group (seen (take i xs)) (seen (drop i xs))
      ≡ flat_map (kind_lines_unless net order group (seen (take i xs))) (get_or xs i d).now.change.kinds
      ++ all_kind_lines net order group (seen (take (i + 1) xs)) (seen (drop (i + 1) xs))
  kinds_next group xs i d low =
      ap (all_kind_lines net order group (seen (take i xs))) (seen_next xs i d low)
      ∙ ap (λ (before : List ComparedPair).
      flat_map (kind_lines_unless net order group (seen (take i xs))) (get_or xs i d).now.change.kinds ++ all_kind_lines net order group before (seen (drop (i + 1) xs)))
      (sym (seen_more xs i d low))
