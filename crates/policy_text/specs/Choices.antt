-- The alternatives of a ranked expression, each as an expression of its own, and their text.
use Rattle.std.specs.Prelude.{◌≡◌, ℕ, suc, Bool, List, [], ◌∷◌, ◌++◌, codes, map}
use Rattle.std.specs.Fmt.{decimal}
use Rattle.std.specs.List.{flat_map}
use Rattle.net_base.specs.Network.{PlainNet}
use Rattle.policy_base.specs.Meaning.{PathTest, alternatives}
use Rattle.policy_base.specs.Policies.{Ranking, call, calls, prefer, either, both, negated}
use Rattle.policy_text.specs.PolicyText.{in_brackets, ranking_text}

-- The alternatives, the best one first, each without ranks.
abbrev pub choices : Ranking → List Ranking
choices (call c) = call c ∷ []
choices (calls cs) = map call cs
choices (prefer a b) = choices a ++ choices b
choices (both a b) = flat_map (λ x. map (both x) (choices b)) (choices a)
choices (either a b) = either a b ∷ []
choices (negated a) = negated a ∷ []

-- each as it is printed where what binds less strongly than a number stands in brackets
abbrev pub choice_texts : PlainNet → ℕ → Ranking → List (List ℕ)
choice_texts net least r = map (ranking_text net least) (choices r)

-- two texts joined by `and`
abbrev pub pair_text : Bool → List ℕ → List ℕ → List ℕ
pair_text b x y = in_brackets b (x ++ codes " and " ++ y)

-- a line for each text, from a rank on
abbrev pub rank_lines_from : ℕ → List (List ℕ) → List ℕ
rank_lines_from k [] = []
rank_lines_from k (t ∷ ts) = codes "rank " ++ decimal k ++ codes " " ++ t ++ codes "\n" ++ rank_lines_from (suc k) ts

-- a line for each rank of an expression, with its alternative
abbrev pub rank_lines : PlainNet → Ranking → List ℕ
rank_lines net r = rank_lines_from 1 (choice_texts net 1 r)

-- ---- what they mean

-- Each choice has one alternative: the one that the expression has at its place.
abbrev pub ChoicesAreAlternatives : Type 0
ChoicesAreAlternatives = (net : PlainNet) (r : Ranking) → map (alternatives net) (choices r) ≡ map (λ (p : PathTest). p ∷ []) (alternatives net r)
