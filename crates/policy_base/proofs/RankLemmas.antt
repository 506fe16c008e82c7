-- Places in lists of alternatives.
use Rattle.std.proofs.Common.{◌≡◌, ℕ, Bool, true, false, ◌&&◌, ◌||◌, List, [], ◌∷◌, ◌++◌, map, refl, sym, ap, ◌∙◌}
use Rattle.std.specs.List.{flat_map}
use Rattle.std.proofs.Math.Bool.{or_assoc, and-false, and-or_distrib_left}
use Rattle.policy_base.specs.Meaning.{PathTest, some_test, both_tests}

pub some_test-append : (ps qs : List PathTest) (path : List ℕ) → some_test (ps ++ qs) path ≡ (some_test ps path || some_test qs path)
some_test-append [] qs path = refl
some_test-append (p ∷ ps) qs path = ap (λ b. p path || b) (some_test-append ps qs path) ∙ sym (or_assoc (p path) (some_test ps path) (some_test qs path))

some_test-row : (p : PathTest) (qs : List PathTest) (path : List ℕ) → some_test (map (both_tests p) qs) path ≡ (p path && some_test qs path)
some_test-row p [] path = sym (and-false (p path))
some_test-row p (q ∷ qs) path = ap (λ b. (p path && q path) || b) (some_test-row p qs path) ∙ sym (and-or_distrib_left (p path) (q path) (some_test qs path))

-- all pairs of two lists of tests, by the place in the first one first
abbrev pub pairs : List PathTest → List PathTest → List PathTest
pairs ps qs = flat_map (λ p. map (both_tests p) qs) ps

-- a path meets a pair where it meets one of each
pub some_test-pairs : (ps qs : List PathTest) (path : List ℕ) → some_test (pairs ps qs) path ≡ (some_test ps path && some_test qs path)
some_test-pairs [] qs path = refl
some_test-pairs (p ∷ ps) qs path =
    some_test-append (map (both_tests p) qs) (pairs ps qs) path
    ∙ ap (λ b. b || some_test (pairs ps qs) path) (some_test-row p qs path)
    ∙ ap (λ b. (p path && some_test qs path) || b) (some_test-pairs ps qs path)
    ∙ distribute (p path) (some_test ps path) (some_test qs path) where
      distribute : (a b c : Bool) → ((a && c) || (b && c)) ≡ ((a || b) && c)
      distribute true b true = refl
      distribute true true false = refl
      distribute true false false = refl
      distribute false b c = refl
