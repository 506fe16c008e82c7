-- The first lexemes of what is left of a text.
use Rattle.std.specs.Prelude.{ℕ, zero, suc, ◌==◌, List, [], ◌∷◌, Option, Some, None, Result, Ok, if◌then◌else◌}
use Rattle.net_base.specs.Steps.{◌>>=◌, or_fault}
use Rattle.policy_tokens.specs.declared.fault.PolicyFault.{PolicyFault}
use Rattle.policy_tokens.specs.declared.fault.PolicyFault.TheVariants.{Syntax}
use Rattle.policy_grammar.specs.declared.lexeme.Lexeme.{Lexeme}
use Rattle.policy_grammar.specs.declared.symbol.Symbol.{Symbol}
use Rattle.policy_grammar.specs.Symbols.{number_of}

-- what is read from the front of some lexemes, and those that are left
abbrev pub Read : Type 0 → Type 0
Read A = Result (A × List Lexeme) PolicyFault

-- no policy goes on with the first of these
abbrev pub refused : List Lexeme → PolicyFault
refused [] = Syntax (record { line = 0; column = 0 })
refused (l ∷ ls) = Syntax l.place

-- the first one and those after it, where it has this symbol
abbrev pub past : Symbol → List Lexeme → Option (Lexeme × List Lexeme)
past s [] = None
past s (l ∷ ls) = if number_of l.symbol == number_of s then Some (l, ls) else None

-- the first one, which is to have this symbol
abbrev pub first_of : Symbol → List Lexeme → Read Lexeme
first_of s ls = or_fault (refused ls) (past s ls)

-- what stands after the first one, which is to have this symbol
abbrev pub after : Symbol → List Lexeme → Result (List Lexeme) PolicyFault
after s ls = do
  x ← first_of s ls
  Ok x.1

-- one of two ways, as the first lexeme has the symbol or not
abbrev pub either : {A : Type 0} → Option (Lexeme × List Lexeme) → (Lexeme → List Lexeme → A) → A → A
either (Some x) there absent = there x.0 x.1
either None there absent = absent

-- A chain: as long as the next lexeme is the joint, one more link is read and added to what was read so far. The
-- number is at least that of the lexemes: it only counts down.
unfoldable pub chain : {A : Type 0} → Symbol → (Lexeme → A → List Lexeme → Read A) → ℕ → A → List Lexeme → Read A
chain joint link zero so_far ls = Ok (so_far, ls)
chain joint link (suc n) so_far ls = either (past joint ls) (λ l rest. link l so_far rest >>= λ x. chain joint link n x.0 x.1) (Ok (so_far, ls))
