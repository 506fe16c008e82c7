-- The texts of alternatives.
use Rattle.std.proofs.Common.{◌≡◌, ℕ, Box, Global, List, [], ◌∷◌, ◌++◌, map, refl, sym, ap, ap₂, ◌∙◌}
use Rattle.std.specs.Prelude.{nat_lt}
use Rattle.std.specs.List.{flat_map}
use Rattle.std.proofs.lemmas.List.{map-append}
use Rattle.list_law.proofs.Changed.{map-map}
use Rattle.net_base.specs.declared.loc.LocSet.{LocSet}
use Rattle.net_base.specs.Network.{PlainNet}
use Rattle.policy_base.specs.declared.call.Call.TheVariants.{Of}
use Rattle.policy_words.specs.declared.word.SetCall.{SetCall}
use Rattle.policy_base.specs.declared.ranked.Ranked.{Ranked, Calls, Prefer, And}
use Rattle.policy_base.specs.Policies.{Ranking, call, both, ranking_of}
use Rattle.policy_base.proofs.RankingViews.{ranking_of-And, ranking_of-Calls, ranking_of-Prefer}
use Rattle.policy_text.specs.Choices.{choice_texts, choices, pair_text}
use Rattle.policy_text.specs.PolicyText.{call_text, ranking_text}

module _ (net : PlainNet) (least : ℕ) where
  pub texts_Calls : (r : Ranked) (c : SetCall) (sets : List LocSet) → r ≡ Calls c sets
      → choice_texts net least (ranking_of r) ≡ map (call_text net) (map (Of c) sets)
  texts_Calls r c sets is =
      ap (λ v. choice_texts net least (ranking_of v)) is ∙ ap (choice_texts net least) (ranking_of-Calls c sets)
      ∙ map-map (ranking_text net least) call (map (Of c) sets)

  pub texts_Prefer : (r : Ranked) (a b : Box Ranked Global) → r ≡ Prefer a b
      → choice_texts net least (ranking_of r) ≡ choice_texts net least (ranking_of a.value) ++ choice_texts net least (ranking_of b.value)
  texts_Prefer r a b is =
      ap (λ v. choice_texts net least (ranking_of v)) is ∙ ap (choice_texts net least) (ranking_of-Prefer a b)
      ∙ map-append (ranking_text net least) (choices (ranking_of a.value)) (choices (ranking_of b.value))

  pairs : (xs ys : List Ranking)
      → map (ranking_text net least) (flat_map (λ x. map (both x) ys) xs)
      ≡ flat_map (λ t. map (pair_text (nat_lt 3 least) t) (map (ranking_text net 4) ys)) (map (ranking_text net 3) xs)
  pairs [] ys = refl
  pairs (x ∷ xs) ys =
      let row : map (ranking_text net least) (map (both x) ys) ≡ map (pair_text (nat_lt 3 least) (ranking_text net 3 x)) (map (ranking_text net 4) ys) =
      map-map (ranking_text net least) (both x) ys ∙ sym (map-map (pair_text (nat_lt 3 least) (ranking_text net 3 x)) (ranking_text net 4) ys) in
      map-append (ranking_text net least) (map (both x) ys) (flat_map (λ y. map (both y) ys) xs) ∙ ap₂ (λ (a b : List (List ℕ)). a ++ b) row (pairs xs ys)

  pub texts_And : (r : Ranked) (a b : Box Ranked Global) → r ≡ And a b
      → choice_texts net least (ranking_of r)
      ≡ flat_map (λ t. map (pair_text (nat_lt 3 least) t) (choice_texts net 4 (ranking_of b.value))) (choice_texts net 3 (ranking_of a.value))
  texts_And r a b is =
      ap (λ v. choice_texts net least (ranking_of v)) is ∙ ap (choice_texts net least) (ranking_of-And a b)
      ∙ pairs (choices (ranking_of a.value)) (choices (ranking_of b.value))
