-- The expressions that terms stand for.
use Rattle.std.specs.Prelude.{◌≡◌, ◌⊎◌, ℕ, suc, ◌<◌, Bool, true, false, ◌&&◌, nat_lt, List, [], ◌∷◌, ◌++◌, map, length}
use Rattle.std.specs.List.{list_all}
use Rattle.path_exprs.specs.Expression.{Expression, never, empty, set, seq, either, both, complement, star, expressions_of}
use Rattle.path_exprs.specs.Normal.{sorted}
pub use Rattle.path_exprs.specs.Parts.{at, are_known, Extends}
use Rattle.path_terms.specs.declared.term.Term.{Term}
use Rattle.path_terms.specs.declared.term.Term.TheVariants.{Never, Empty, Set, Seq, Either, Both, Not, Star}

-- One node, with the expression of each child in its place. Members stand in the order of their numbers, and their expressions in the order of expressions.
abbrev pub node : List Expression → Term → Expression
node es Never = never
node es Empty = empty
node es (Set s) = set s
node es (Seq a b) = seq (at es a) (at es b)
node es (Either ns) = either (expressions_of (sorted (map (at es) ns.items)))
node es (Both ns) = both (expressions_of (sorted (map (at es) ns.items)))
node es (Not a) = complement (at es a)
node es (Star a) = star (at es a)

-- the expressions of further terms behind these
abbrev pub grow : List Expression → List Term → List Expression
grow es [] = es
grow es (t ∷ ts) = grow (es ++ node es t ∷ []) ts

abbrev pub expressions : List Term → List Expression
expressions ts = grow [] ts

-- strictly ascending, and each of them below k
abbrev pub ascending : List ℕ → Bool
ascending [] = true
ascending (n ∷ ns) = list_all (λ m. nat_lt n m) ns && ascending ns

abbrev pub are_members : ℕ → List ℕ → Bool
are_members k ns = list_all (λ n. nat_lt n k) ns && ascending ns

-- a term whose children are among the first k, with its members in ascending order
abbrev pub is_sound : ℕ → Term → Bool
is_sound k Never = true
is_sound k Empty = true
is_sound k (Set s) = true
is_sound k (Seq a b) = nat_lt a k && nat_lt b k
is_sound k (Either ns) = are_members k ns.items
is_sound k (Both ns) = are_members k ns.items
is_sound k (Not a) = nat_lt a k
is_sound k (Star a) = nat_lt a k

-- each is sound where it stands, the first of them at k
abbrev pub each_sound : ℕ → List Term → Bool
each_sound k [] = true
each_sound k (t ∷ ts) = is_sound k t && each_sound (suc k) ts

-- no expression has two numbers
abbrev pub AreApart : List Expression → Type 0
AreApart es = (i j : ℕ) → i < length es → j < length es → at es i ≡ at es j → i ≡ j

abbrev pub is_empty : Expression → Bool
is_empty empty = true
is_empty e = false

abbrev pub Among : ℕ → List ℕ → Type 0
Among n [] = ⊥
Among n (m ∷ ms) = (n ≡ m) ⊎ Among n ms

-- the same members in ascending order, without repeats
abbrev pub IsAscendingOf : List ℕ → List ℕ → Type 0
IsAscendingOf old new = (ascending new ≡ true) × ((n : ℕ) → Among n old → Among n new) × ((n : ℕ) → Among n new → Among n old)
