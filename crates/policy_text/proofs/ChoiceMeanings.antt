-- The alternatives of an expression mean what it means.
use Rattle.std.proofs.Common.{◌≡◌, List, [], ◌∷◌, ◌++◌, map, refl, sym, ap₂, ◌∙◌}
use Rattle.std.specs.List.{flat_map}
use Rattle.std.proofs.lemmas.List.{map-append}
use Rattle.list_law.proofs.Changed.{map-map}
use Rattle.net_base.specs.Network.{PlainNet}
use Rattle.policy_base.specs.Meaning.{PathTest, alternatives, both_tests, meets}
use Rattle.policy_base.specs.Policies.{Ranking, call, calls, prefer, either, both, negated}
use Rattle.policy_text.specs.Choices.{ChoicesAreAlternatives, choices}

abbrev alone : PathTest → List PathTest
alone p = p ∷ []

-- where an expression has one alternative, its pairs with such ones have one each
row_means : (net : PlainNet) (x : Ranking) (p : PathTest) → alternatives net x ≡ alone p → (ys : List Ranking) (qs : List PathTest)
    → map (alternatives net) ys ≡ map alone qs → map (alternatives net) (map (both x) ys) ≡ map alone (map (both_tests p) qs)
row_means net x p is [] [] h = refl
row_means net x p is [] (q ∷ qs) h = absurd cc
row_means net x p is (y ∷ ys) [] h = absurd cc
row_means net x p is (y ∷ ys) (q ∷ qs) h =
    let first : alternatives net y ≡ alone q = cc in
    let rest : map (alternatives net) ys ≡ map alone qs = cc in
    let here : alternatives net (both x y) ≡ alone (both_tests p q) =
    ap₂ (λ (ps rs : List PathTest). flat_map (λ t. map (both_tests t) rs) ps) is first in
    ap₂ (λ (a : List PathTest) (b : List (List PathTest)). a ∷ b) here (row_means net x p is ys qs rest)

pairs_mean : (net : PlainNet) (xs ys : List Ranking) (ps qs : List PathTest) → map (alternatives net) xs ≡ map alone ps → map (alternatives net) ys ≡ map alone qs
    → map (alternatives net) (flat_map (λ x. map (both x) ys) xs) ≡ map alone (flat_map (λ p. map (both_tests p) qs) ps)
pairs_mean net [] ys [] qs h k = refl
pairs_mean net [] ys (p ∷ ps) qs h k = absurd cc
pairs_mean net (x ∷ xs) ys [] qs h k = absurd cc
pairs_mean net (x ∷ xs) ys (p ∷ ps) qs h k =
    let first : alternatives net x ≡ alone p = cc in
    let rest : map (alternatives net) xs ≡ map alone ps = cc in
    map-append (alternatives net) (map (both x) ys) (flat_map (λ y. map (both y) ys) xs)
    ∙ ap₂ (λ (a b : List (List PathTest)). a ++ b) (row_means net x p first ys qs k) (pairs_mean net xs ys ps qs rest k)
    ∙ sym (map-append alone (map (both_tests p) qs) (flat_map (λ q. map (both_tests q) qs) ps))

pub choices_mean : ChoicesAreAlternatives
choices_mean net (call c) = refl
choices_mean net (calls cs) = map-map (alternatives net) call cs ∙ sym (map-map alone (meets net) cs)
choices_mean net (prefer a b) =
    map-append (alternatives net) (choices a) (choices b) ∙ ap₂ (λ (x y : List (List PathTest)). x ++ y) (choices_mean net a) (choices_mean net b)
    ∙ sym (map-append alone (alternatives net a) (alternatives net b))
choices_mean net (both a b) = pairs_mean net (choices a) (choices b) (alternatives net a) (alternatives net b) (choices_mean net a) (choices_mean net b)
choices_mean net (either a b) = refl
choices_mean net (negated a) = refl
