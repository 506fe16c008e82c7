-- The form of what is read. An expression, which is read into steps, has the form of a tree.
use Rattle.std.specs.Prelude.{◌≡◌, ℕ, ◌+◌, ◌≤◌, max, nat_lt, Bool, true, false, List, [], ◌∷◌, ◌++◌, length, Option, None, if◌then◌else◌}
use Rattle.std.specs.List.{AllByRecursion}
use Rattle.net_base.specs.declared.place.Place.{Place}
use Rattle.policy_grammar.specs.declared.lexeme.Lexeme.{Lexeme}
use Rattle.policy_grammar.specs.Raw.{Arg, Arg as arg, RawCall, RawStatement, Step, Step as step, Item}
use Rattle.policy_words.specs.declared.word.CallWord.{CallWord}
use Rattle.policy_words.specs.declared.word.CallWord.TheVariants as word
use Rattle.policy_grammar.specs.Raw.Item.{Define, Originate, State}

-- a call, `a >> b`, `a or b`, `a and b`, `not a`
pub data Tree : Type 0 where
  leaf : RawCall → Tree
  above : Place → Tree → Tree → Tree
  or : Tree → Tree → Tree
  and : Tree → Tree → Tree
  not : Tree → Tree

-- its steps in postfix order
abbrev pub steps_of : Tree → List Step
steps_of (Tree.leaf c) = step.Call c ∷ []
steps_of (Tree.above p a b) = steps_of a ++ steps_of b ++ step.Above p ∷ []
steps_of (Tree.or a b) = steps_of a ++ steps_of b ++ step.Or ∷ []
steps_of (Tree.and a b) = steps_of a ++ steps_of b ++ step.And ∷ []
steps_of (Tree.not a) = steps_of a ++ step.Not ∷ []

abbrev pub has_brackets : CallWord → Bool
has_brackets word.Any = false
has_brackets word.Drop = false
has_brackets word.Internal = false
has_brackets _ = true

abbrev pub one_if : Bool → ℕ
one_if b = if b then 1 else 0

-- how many brackets it opens at once, where what binds less than a number stands in brackets
abbrev pub brackets_of : ℕ → Tree → ℕ
brackets_of least (Tree.leaf c) = one_if (has_brackets c.word)
brackets_of least (Tree.above p a b) = one_if (nat_lt 1 least) + max (brackets_of 1 a) (brackets_of 2 b)
brackets_of least (Tree.or a b) = one_if (nat_lt 2 least) + max (brackets_of 2 a) (brackets_of 3 b)
brackets_of least (Tree.and a b) = one_if (nat_lt 3 least) + max (brackets_of 3 a) (brackets_of 4 b)
brackets_of least (Tree.not a) = one_if (nat_lt 4 least) + brackets_of 5 a

-- each call of it
abbrev pub AllCalls : (RawCall → Type 0) → Tree → Type 0
AllCalls P (Tree.leaf c) = P c
AllCalls P (Tree.above p a b) = AllCalls P a × AllCalls P b
AllCalls P (Tree.or a b) = AllCalls P a × AllCalls P b
AllCalls P (Tree.and a b) = AllCalls P a × AllCalls P b
AllCalls P (Tree.not a) = AllCalls P a

-- one name at least
abbrev pub IsNamed : List Lexeme → Type 0
IsNamed [] = ⊥
IsNamed (l ∷ ls) = Unit {0}

abbrev pub IsArg : Arg → Type 0
IsArg arg.Any = Unit {0}
IsArg (arg.Names ls) = IsNamed ls

-- how many sets a call has; several are ranked, and then a `>>` stands between them
abbrev pub HasArgs : CallWord → ℕ → Option Place → Type 0
HasArgs word.Any n place = Unit {0}
HasArgs word.Drop n place = Unit {0}
HasArgs word.Internal n place = Unit {0}
HasArgs word.Link n place = n ≡ 2
HasArgs word.Path n place = 2 ≤ n
HasArgs (word.Of c) n place = (1 ≤ n) × (place ≡ None → n ≡ 1)

pub record IsCallForm (c : RawCall) : Type 0 where
  pub count : HasArgs c.word (length c.args) c.above
  pub args : AllByRecursion IsArg c.args

pub record IsStatementForm (s : RawStatement) : Type 0 where
  pub patterns : 1 ≤ length s.patterns
  pub tree : Tree
  pub steps : s.ranked ≡ steps_of tree
  pub few : brackets_of 1 tree ≤ 64
  pub calls : AllCalls IsCallForm tree
  pub from : IsArg s.from

abbrev pub HasForm : Item → Type 0
HasForm (Define name members) = IsNamed members
HasForm (Originate prefix names) = IsNamed names
HasForm (State s) = IsStatementForm s
