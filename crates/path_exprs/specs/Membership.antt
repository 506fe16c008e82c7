-- Which lists of locations are in an expression.
use Rattle.std.specs.Prelude.{◌≡◌, ◌⊎◌, ℕ, List, [], ◌∷◌, ◌++◌, true, false, not, ◌&&◌, ◌||◌}
use Rattle.path_exprs.specs.Expression.{Expression, never, empty, set, seq, either, both, complement, star, Expressions, none, more}
use Rattle.path_exprs.specs.Language.{Language, nothing, one_of, divides, repeats}
use Rattle.net_base.specs.Sets.{holds}

-- zero or more pieces that aren't empty, each of them in P
pub data Pieces (P : List ℕ → Type 0) : List ℕ → Type 0 where
  no_piece : Pieces P []
  next_piece : (x : ℕ) (xs rest : List ℕ) → P (x ∷ xs) → Pieces P rest → Pieces P (x ∷ (xs ++ rest))

abbrev mutual
  pub Member : Expression → List ℕ → Type 0
  Member never xs = ⊥
  Member empty xs = xs ≡ []
  Member (set s) xs = (x : ℕ) × (holds s x ≡ true) × (xs ≡ x ∷ [])
  Member (seq a b) xs = (ys zs : List ℕ) × (xs ≡ ys ++ zs) × Member a ys × Member b zs
  Member (either es) xs = SomeMember es xs
  Member (both es) xs = EachMember es xs
  Member (complement a) xs = Member a xs → ⊥
  Member (star a) xs = Pieces (Member a) xs

  pub SomeMember : Expressions → List ℕ → Type 0
  SomeMember none xs = ⊥
  SomeMember (more e es) xs = Member e xs ⊎ SomeMember es xs

  pub EachMember : Expressions → List ℕ → Type 0
  EachMember none xs = Unit {0}
  EachMember (more e es) xs = Member e xs × EachMember es xs

-- the same as a test
abbrev mutual
  pub member : Expression → Language
  member never xs = false
  member empty xs = nothing xs
  member (set s) xs = one_of s xs
  member (seq a b) xs = divides (member a) (member b) xs
  member (either es) xs = some_member es xs
  member (both es) xs = each_member es xs
  member (complement a) xs = not (member a xs)
  member (star a) xs = repeats (member a) xs

  pub some_member : Expressions → Language
  some_member none xs = false
  some_member (more e es) xs = member e xs || some_member es xs

  pub each_member : Expressions → Language
  each_member none xs = true
  each_member (more e es) xs = member e xs && each_member es xs
