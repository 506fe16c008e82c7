-- Items that are read one after the other, as a loop does.
use Rattle.std.proofs.Common.{◌≡◌, ℕ, zero, suc, ◌≤◌, ◌<◌, List, [], ◌∷◌, ◌++◌, length, true, false, Result, Ok, Err, refl, sym, ◌∙◌, arith}
use Rattle.std.specs.Prelude.{◌==◌}
use Rattle.policy_tokens.specs.declared.fault.PolicyFault.{PolicyFault}
use Rattle.policy_grammar.specs.declared.lexeme.Lexeme.{Lexeme}
use Rattle.policy_grammar.specs.Raw.{Item}
use Rattle.policy_grammar.specs.declared.symbol.Symbol.TheVariants.{EndOfText}
use Rattle.policy_grammar.specs.Symbols.{number_of}
use Rattle.policy_grammar.specs.Items.{item_at, items_from}

-- The items so far lead to all items, as long as the number is at least that of the lexemes that are left.
abbrev pub LeadsTo : List Item → List Lexeme → Result (List Item) PolicyFault → Type 0
LeadsTo items ls total = (n : ℕ) × (length ls ≤ n) × (items_from n items ls ≡ total)

-- one item more
pub goes_on : (items : List Item) (l : Lexeme) (ls : List Lexeme) (item : Item) (rest : List Lexeme) (total : Result (List Item) PolicyFault)
    → (number_of l.symbol == number_of EndOfText) ≡ false → item_at (l ∷ ls) ≡ Ok (item, rest) → length rest < length (l ∷ ls) → LeadsTo items (l ∷ ls) total → LeadsTo (items ++ item ∷ []) rest total
unfolding items_from
goes_on items l ls item rest total goes read fewer (zero, le, is) = absurd (omega (arith, le))
goes_on items l ls item rest total goes read fewer (suc n, le, is) =
    let one : items_from (suc n) items (l ∷ ls) ≡ items_from n (items ++ item ∷ []) rest = rw (goes, read) refl in
    (n, omega (arith, le, fewer), sym one ∙ is)

-- no item
pub stops : (items : List Item) (l : Lexeme) (ls : List Lexeme) (e : PolicyFault) (total : Result (List Item) PolicyFault)
    → (number_of l.symbol == number_of EndOfText) ≡ false → item_at (l ∷ ls) ≡ Err e → LeadsTo items (l ∷ ls) total → total ≡ Err e
unfolding items_from
stops items l ls e total goes read (zero, le, is) = absurd (omega (arith, le))
stops items l ls e total goes read (suc n, le, is) =
    let one : items_from (suc n) items (l ∷ ls) ≡ Err e = rw (goes, read) refl in
    sym is ∙ one

-- the end of the text
pub ends : (items : List Item) (l : Lexeme) (ls : List Lexeme) (total : Result (List Item) PolicyFault)
    → (number_of l.symbol == number_of EndOfText) ≡ true → LeadsTo items (l ∷ ls) total → total ≡ Ok items
unfolding items_from
ends items l ls total here (zero, le, is) = absurd (omega (arith, le))
ends items l ls total here (suc n, le, is) =
    let one : items_from (suc n) items (l ∷ ls) ≡ Ok items = rw here refl in
    sym is ∙ one
