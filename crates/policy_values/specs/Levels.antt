-- Ranked expressions as the grammar has them, where each part does something to what was made of those before it.
use Rattle.std.specs.Prelude.{ℕ, zero, suc, List, length, Ok, Err}
use Rattle.net_base.specs.Steps.{◌>>=◌}
use Rattle.policy_grammar.specs.declared.lexeme.Lexeme.{Lexeme}
use Rattle.policy_grammar.specs.declared.symbol.Symbol.TheVariants as symbol
use Rattle.policy_grammar.specs.Raw.{Step}
use Rattle.policy_grammar.specs.Raw.Step.{Call, Not}
use Rattle.policy_grammar.specs.Reading.{Read, refused, past, after, either, chain}
use Rattle.policy_grammar.specs.Calls.{call_at}
use Rattle.policy_grammar.specs.Ranked.{Level, Ranked, Choice, Joint, operator_of, step_of}

-- what reads an expression, and does what its steps do
abbrev pub Reader : Type 0 → Type 0
Reader A = A → List Lexeme → Read A

module _ {A : Type 0} (act : Step → A → A) where
  abbrev pub with_step : Step → Read A → Read A
  with_step step read = read >>= λ x. Ok (act step x.0, x.1)

  abbrev pub bracket_closed : Read A → Read A
  bracket_closed read = do
    x ← read
    rest ← after symbol.RoundClose x.1
    Ok (x.0, rest)

  -- a call
  abbrev pub call_step : Reader A
  call_step out ls = do
    x ← call_at ls
    Ok (act (Call x.0) out, x.1)

  -- atom = "(" inner ")" | call
  abbrev pub atom_with : Reader A → Reader A
  atom_with inner out ls = either (past symbol.RoundOpen ls) (λ l rest. bracket_closed (inner out rest)) (call_step out ls)

  -- unit = [ "not" ] atom
  abbrev pub unit_with : Reader A → Reader A
  unit_with inner out ls = either (past symbol.Not ls) (λ l rest. with_step Not (atom_with inner out rest)) (atom_with inner out ls)

  abbrev pub side_link : Level → Reader A → Lexeme → Reader A
  side_link level side joint out ls = with_step (step_of level joint) (side out ls)

  -- side { operator side }
  abbrev pub joined : Level → Reader A → Reader A
  joined level side out ls = do
    x ← side out ls
    chain (operator_of level) (side_link level side) (length x.1) x.0 x.1

  -- joint = unit { "and" unit }, choice = joint { "or" joint }, ranked = choice { ">>" choice }
  abbrev pub joint_with : Reader A → Reader A
  joint_with inner = joined Joint (unit_with inner)

  abbrev pub choice_with : Reader A → Reader A
  choice_with inner = joined Choice (joint_with inner)

  abbrev pub ranked_with : Reader A → Reader A
  ranked_with inner = joined Ranked (choice_with inner)

  -- what a bracket holds, where so many brackets more may be open
  unfoldable pub inner_at : ℕ → Reader A
  inner_at zero out ls = Err (refused ls)
  inner_at (suc n) out ls = ranked_with (inner_at n) out ls

  -- what stands on the sides of the operators of a level
  abbrev pub side_with : Level → Reader A → Reader A
  side_with Ranked inner = choice_with inner
  side_with Choice inner = joint_with inner
  side_with Joint inner = unit_with inner

  -- each part of an expression, where so many brackets may be open
  abbrev pub atom_at : ℕ → Reader A
  atom_at n = atom_with (inner_at n)

  abbrev pub unit_at : ℕ → Reader A
  unit_at n = unit_with (inner_at n)

  abbrev pub side_at : Level → ℕ → Reader A
  side_at level n = side_with level (inner_at n)

  abbrev pub joined_at : Level → ℕ → Reader A
  joined_at level n = joined level (side_at level n)
