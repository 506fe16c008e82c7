-- What changes, entry by entry.
use Rattle.std.proofs.Common.{◌≡◌, ℕ, ◌+◌, ◌<◌, Bool, true, false, List, [], ◌∷◌, ◌++◌, get_or, length, map, take, Option, Some, None, refl, sym, ap, ◌∙◌}
use Rattle.std.specs.Prelude.{nat_eq, if◌then◌else◌}
use Rattle.std.specs.Option.{option_eq}
use Rattle.std.proofs.lemmas.List.{take_more}
use Rattle.impact_law.specs.Impacts.{changed, same_rank}
use Rattle.impact_law.specs.declared.impact.SourceRank.{SourceRank}

pub same_is : (a b : Option ℕ) → option_eq nat_eq a b ≡ same_rank a b
same_is None None = refl
same_is None (Some j) = refl
same_is (Some i) None = refl
same_is (Some i) (Some j) = refl

module _ (F : SourceRank → SourceRank) where
  one_more : (xs : List SourceRank) (x : SourceRank) → changed (xs ++ x ∷ []) (map F (xs ++ x ∷ [])) ≡ changed xs (map F xs) ++ (if same_rank x.rank (F x).rank then [] else F x ∷ [])
  one_more [] x = refl
  one_more (b ∷ xs) x = by (same_rank b.rank (F b).rank) (one_more xs x)
    where
      by : (t : Bool) → changed (xs ++ x ∷ []) (map F (xs ++ x ∷ [])) ≡ changed xs (map F xs) ++ (if same_rank x.rank (F x).rank then [] else F x ∷ [])
          → (if t then changed (xs ++ x ∷ []) (map F (xs ++ x ∷ [])) else F b ∷ changed (xs ++ x ∷ []) (map F (xs ++ x ∷ [])))
          ≡ (if t then changed xs (map F xs) else F b ∷ changed xs (map F xs)) ++ (if same_rank x.rank (F x).rank then [] else F x ∷ [])
      by true rest = rest
      by false rest = ap (λ (zs : List SourceRank). F b ∷ zs) rest

  -- the next entry of a list
  pub changed_next : (base : List SourceRank) (i : ℕ) (x : SourceRank) → i < length base → x ≡ get_or base i x
      → changed (take (i + 1) base) (map F (take (i + 1) base)) ≡ changed (take i base) (map F (take i base)) ++ (if same_rank x.rank (F x).rank then [] else F x ∷ [])
  changed_next base i x within is =
      ap (λ (xs : List SourceRank). changed xs (map F xs)) (take_more base i x within ∙ ap (λ (y : SourceRank). take i base ++ y ∷ []) (sym is)) ∙ one_more (take i base) x
