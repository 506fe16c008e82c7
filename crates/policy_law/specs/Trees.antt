-- What is written, as a tree: it is read off the grammar, rule by rule.
use Rattle.std.specs.Prelude.{List, [], ◌∷◌, ◌++◌}
use Rattle.net_base.specs.declared.place.Place.{Place}
use Rattle.policy_grammar.specs.declared.lexeme.Lexeme.{Lexeme}
use Rattle.policy_grammar.specs.Raw.{Arg, RawCall, RawPattern, Step, Step as step, Item, Item as item}
use Rattle.grammar_law.specs.Grammar.{IsRanked, IsChoice, IsJoint, IsUnit, IsAtom, IsItem, IsPolicy}

-- An expression: a call, `a >> b` with the place of its `>>`, `a or b`, `a and b`, `not a`.
pub data Expression : Type 0 where
  call : RawCall → Expression
  above : Expression → Place → Expression → Expression
  either : Expression → Expression → Expression
  both : Expression → Expression → Expression
  negated : Expression → Expression

-- An item: a group with its members, a prefix with its origins, a statement with its patterns, its expression and its sources.
pub data Written : Type 0 where
  define : Lexeme → List Lexeme → Written
  originate : Lexeme → List Lexeme → Written
  state : List RawPattern → Expression → Arg → Written

-- The expression that the grammar finds in some tokens. A bracket only groups.
abbrev mutual
  pub ranked_tree : {xs : List Step} {ts : List Lexeme} → IsRanked xs ts → Expression
  ranked_tree (IsRanked.choice c) = choice_tree c
  ranked_tree (IsRanked.above {j = j} a i b) = above (ranked_tree a) j.place (choice_tree b)

  pub choice_tree : {xs : List Step} {ts : List Lexeme} → IsChoice xs ts → Expression
  choice_tree (IsChoice.joint c) = joint_tree c
  choice_tree (IsChoice.or a i b) = either (choice_tree a) (joint_tree b)

  pub joint_tree : {xs : List Step} {ts : List Lexeme} → IsJoint xs ts → Expression
  joint_tree (IsJoint.unit c) = unit_tree c
  joint_tree (IsJoint.and a i b) = both (joint_tree a) (unit_tree b)

  pub unit_tree : {xs : List Step} {ts : List Lexeme} → IsUnit xs ts → Expression
  unit_tree (IsUnit.atom a) = atom_tree a
  unit_tree (IsUnit.not i a) = negated (atom_tree a)

  pub atom_tree : {xs : List Step} {ts : List Lexeme} → IsAtom xs ts → Expression
  atom_tree (IsAtom.bracket i r j) = ranked_tree r
  atom_tree (IsAtom.call {x = x} c) = call x

-- the item that the grammar finds in some tokens
abbrev pub item_tree : {x : Item} {ts : List Lexeme} → IsItem x ts → Written
item_tree (IsItem.define {n = n} {names = names} d is e g s) = define n names
item_tree (IsItem.originate {f = f} {names = names} o is t ns s) = originate f names
item_tree (IsItem.state {ps = ps} {x = x} p a r f s) = state ps (ranked_tree r) x

-- the items that the grammar finds in some tokens
abbrev pub policy_tree : {xs : List Item} {ts : List Lexeme} → IsPolicy xs ts → List Written
policy_tree IsPolicy.none = []
policy_tree (IsPolicy.more i p) = item_tree i ∷ policy_tree p

-- an expression in postfix order: an operator follows its sides
abbrev pub postfix : Expression → List Step
postfix (call c) = step.Call c ∷ []
postfix (above a p b) = postfix a ++ postfix b ++ step.Above p ∷ []
postfix (either a b) = postfix a ++ postfix b ++ step.Or ∷ []
postfix (both a b) = postfix a ++ postfix b ++ step.And ∷ []
postfix (negated a) = postfix a ++ step.Not ∷ []

-- an item with its expression in postfix order
abbrev pub item_of : Written → Item
item_of (define name members) = item.Define name members
item_of (originate prefix names) = item.Originate prefix names
item_of (state patterns e from) = item.State (record { patterns = patterns; ranked = postfix e; from = from })
