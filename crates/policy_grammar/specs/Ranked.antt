-- Ranked expressions, in postfix order: an operator follows its sides.
use Rattle.std.specs.Prelude.{ℕ, zero, suc, List, [], ◌∷◌, ◌++◌, length, Ok, Err}
use Rattle.net_base.specs.Steps.{◌>>=◌}
use Rattle.policy_grammar.specs.declared.lexeme.Lexeme.{Lexeme}
use Rattle.policy_grammar.specs.declared.symbol.Symbol.{Symbol}
use Rattle.policy_grammar.specs.declared.symbol.Symbol.TheVariants as symbol
use Rattle.policy_grammar.specs.Raw.{Step}
use Rattle.policy_grammar.specs.Raw.Step.{Call, Above, Or, And, Not}
use Rattle.policy_grammar.specs.Reading.{Read, refused, past, after, either, chain}
use Rattle.policy_grammar.specs.Calls.{call_at}

-- what reads an expression, and puts its steps behind those that were read so far
abbrev pub Reader : Type 0
Reader = List Step → List Lexeme → Read (List Step)

abbrev pub with_step : Step → Read (List Step) → Read (List Step)
with_step step read = read >>= λ x. Ok (x.0 ++ step ∷ [], x.1)

abbrev bracket_closed : Read (List Step) → Read (List Step)
bracket_closed read = do
  x ← read
  rest ← after symbol.RoundClose x.1
  Ok (x.0, rest)

-- a call
abbrev pub call_step : Reader
call_step out ls = do
  x ← call_at ls
  Ok (out ++ Call x.0 ∷ [], x.1)

-- atom = "(" inner ")" | call
abbrev pub atom_with : Reader → Reader
atom_with inner out ls = either (past symbol.RoundOpen ls) (λ l rest. bracket_closed (inner out rest)) (call_step out ls)

-- unit = [ "not" ] atom
abbrev pub unit_with : Reader → Reader
unit_with inner out ls = either (past symbol.Not ls) (λ l rest. with_step Not (atom_with inner out rest)) (atom_with inner out ls)

-- the operators with two sides, from the one that binds most loosely: `>>`, `or` and `and`
pub data Level : Type 0 where
  Ranked : Level
  Choice : Level
  Joint : Level

-- the operator of a level, and its step
abbrev pub operator_of : Level → Symbol
operator_of Ranked = symbol.Above
operator_of Choice = symbol.Or
operator_of Joint = symbol.And

abbrev pub step_of : Level → Lexeme → Step
step_of Ranked joint = Above joint.place
step_of Choice joint = Or
step_of Joint joint = And

abbrev pub side_link : Level → Reader → Lexeme → Reader
side_link level side joint out ls = with_step (step_of level joint) (side out ls)

-- side { operator side }
abbrev pub joined : Level → Reader → Reader
joined level side out ls = do
  x ← side out ls
  chain (operator_of level) (side_link level side) (length x.1) x.0 x.1

-- joint = unit { "and" unit }, choice = joint { "or" joint }, ranked = choice { ">>" choice }
abbrev pub joint_with : Reader → Reader
joint_with inner = joined Joint (unit_with inner)

abbrev pub choice_with : Reader → Reader
choice_with inner = joined Choice (joint_with inner)

abbrev pub ranked_with : Reader → Reader
ranked_with inner = joined Ranked (choice_with inner)

-- what stands on the sides of the operators of a level
abbrev pub side_with : Level → Reader → Reader
side_with Ranked inner = choice_with inner
side_with Choice inner = joint_with inner
side_with Joint inner = unit_with inner

-- what a bracket holds, where so many brackets more may be open
unfoldable pub inner_at : ℕ → Reader
inner_at zero out ls = Err (refused ls)
inner_at (suc n) out ls = ranked_with (inner_at n) out ls
