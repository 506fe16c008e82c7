-- Which tokens a policy begins with.
use Rattle.std.specs.Prelude.{◌≡◌, List, [], ◌∷◌, ◌++◌}
use Rattle.net_base.specs.declared.place.Place.{Place}
use Rattle.policy_grammar.specs.declared.lexeme.Lexeme.{Lexeme}
use Rattle.policy_grammar.specs.declared.symbol.Symbol.TheVariants.{EndOfText}
use Rattle.policy_grammar.specs.Raw.{Item}
use Rattle.grammar_law.specs.Grammar.{Is, IsPolicy}

-- a whole text: a policy, and the end
pub data IsText : List Item → List Lexeme → Type 0 where
  text : {items : List Item} {ts : List Lexeme} {end : Lexeme} → IsPolicy items ts → Is EndOfText end → IsText items (ts ++ end ∷ [])

-- a text of some policy begins with these tokens
abbrev pub IsFront : List Lexeme → Type 0
IsFront ls = (items : List Item) × (rest : List Lexeme) × IsText items (ls ++ rest)

-- The token at this place is the first that is wrong: a text begins with those before it, and none with those and it.
abbrev pub FirstWrong : List Lexeme → Place → Type 0
FirstWrong ls place =
    (front rest : List Lexeme) × (wrong : Lexeme) × (ls ≡ front ++ wrong ∷ rest) × IsFront front × (IsFront (front ++ wrong ∷ []) → ⊥) × (wrong.place ≡ place)
