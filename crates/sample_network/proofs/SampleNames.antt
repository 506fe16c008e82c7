-- The names of the sample are names, and differ.
use Rattle.std.proofs.Common.{◌≡◌, ℕ, ◌+◌, ◌<◌, Bool, true, false, List, ◌∷◌, ◌++◌, refl, arith}
use Rattle.std.specs.Prelude.{IsTrue, codes}
use Rattle.std.specs.Fmt.{decimal, digits}
use Rattle.std.specs.List.{list_all}
use Rattle.std.specs.Str.{bytes_eq}
use Rattle.std.proofs.lemmas.Fmt.{decimal_injective}
use Rattle.std.proofs.lemmas.Slice.Eq.{bytes_eq-Decides}
use Rattle.net_base.specs.Locations.{numbers_below}
use Rattle.policy_words.specs.Words.{word_named}
use Rattle.net_base.specs.NameRule.{is_name}
use Rattle.sample_network.proofs.Below.{tested_below}

leaf_names : list_all (λ k. is_name (codes "L" ++ decimal (k + 1))) (numbers_below 96) ≡ true
unfolding is_name word_named digits
leaf_names = refl

spine_names : list_all (λ k. is_name (codes "S" ++ decimal (k + 1))) (numbers_below 4) ≡ true
unfolding is_name word_named digits
spine_names = refl

peer_names : list_all (λ k. is_name (codes "W" ++ decimal (k + 1))) (numbers_below 2) ≡ true
unfolding is_name word_named digits
peer_names = refl

pub leaf_named : (k : ℕ) → k < 96 → IsTrue (is_name (codes "L" ++ decimal (k + 1)))
leaf_named k low = tested_below (λ k. is_name (codes "L" ++ decimal (k + 1))) 96 k leaf_names low

pub spine_named : (k : ℕ) → k < 4 → IsTrue (is_name (codes "S" ++ decimal (k + 1)))
spine_named k low = tested_below (λ k. is_name (codes "S" ++ decimal (k + 1))) 4 k spine_names low

pub peer_named : (k : ℕ) → k < 2 → IsTrue (is_name (codes "W" ++ decimal (k + 1)))
peer_named k low = tested_below (λ k. is_name (codes "W" ++ decimal (k + 1))) 2 k peer_names low

-- two numbers behind one letter
pub numbers_apart : (letter i j : ℕ) → i < j → j < 96 → bytes_eq (letter ∷ decimal (i + 1)) (letter ∷ decimal (j + 1)) ≡ false
numbers_apart letter i j less low = by (bytes_eq (letter ∷ decimal (i + 1)) (letter ∷ decimal (j + 1))) refl
  where
    same : (m n : List ℕ) → letter ∷ m ≡ letter ∷ n → m ≡ n
    same m n e = cc

    by : (b : Bool) → bytes_eq (letter ∷ decimal (i + 1)) (letter ∷ decimal (j + 1)) ≡ b → b ≡ false
    by false e = refl
    by true e =
        let is = same (decimal (i + 1)) (decimal (j + 1)) ((bytes_eq-Decides (letter ∷ decimal (i + 1)) (letter ∷ decimal (j + 1))).0 e) in
        absurd (omega (arith, less, decimal_injective (i + 1) (j + 1) (omega (arith, less, low)) (omega (arith, low)) is))
