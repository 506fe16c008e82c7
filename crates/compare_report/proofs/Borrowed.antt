-- Pairs that are borrowed, one after another.
use Rattle.std.proofs.Common.{◌≡◌, ℕ, ◌+◌, ◌<◌, List, [], ◌∷◌, ◌++◌, length, take, drop, get_or, sym, ap, ◌∙◌, Bor, add-one, drop-cons}
use Rattle.std.proofs.lemmas.List.{map-append, take_more}
use Rattle.comparison.specs.declared.values.ComparedPair.{ComparedPair}
use Rattle.compare_report.specs.Groups.{seen}

pub seen_push : (xs : List (Bor ComparedPair)) (x : Bor ComparedPair) → seen (xs ++ x ∷ []) ≡ seen xs ++ x.now ∷ []
seen_push xs x = map-append (λ (y : Bor ComparedPair). y.now) xs (x ∷ [])

pub seen_next : (xs : List (Bor ComparedPair)) (i : ℕ) (d : Bor ComparedPair) → i < length xs → seen (drop i xs) ≡ (get_or xs i d).now ∷ seen (drop (i + 1) xs)
seen_next xs i d low = ap seen (drop-cons xs i d low) ∙ ap (λ k. (get_or xs i d).now ∷ seen (drop k xs)) (sym (add-one i))

pub seen_more : (xs : List (Bor ComparedPair)) (i : ℕ) (d : Bor ComparedPair) → i < length xs → seen (take (i + 1) xs) ≡ seen (take i xs) ++ (get_or xs i d).now ∷ []
seen_more xs i d low = ap seen (take_more xs i d low) ∙ seen_push (take i xs) (get_or xs i d)
