-- Which names the items of a policy may use.
use Rattle.std.specs.Prelude.{ℕ, List, [], ◌∷◌, Result, Ok, ⊤}
use Rattle.net_base.specs.declared.loc.LocSet.{LocSet}
use Rattle.net_base.specs.Steps.{◌>>=◌, or_fault}
use Rattle.policy_tokens.specs.declared.fault.PolicyFault.{PolicyFault}
use Rattle.policy_tokens.specs.declared.fault.PolicyFault.TheVariants.{Unknown}
use Rattle.policy_grammar.specs.declared.lexeme.Lexeme.{Lexeme}
use Rattle.policy_grammar.specs.Raw.{Arg, Arg as arg, Step, Step as step, Item}
use Rattle.policy_grammar.specs.Raw.Item.{Define, Originate, State}
use Rattle.policy_grammar.specs.Lexemes.{slice_of}
use Rattle.net_base.specs.SetOperations.{no_location, union_of}
use Rattle.policy_rules.specs.KnownNames.{Names, set_named, with_group}

-- the bytes of a lexeme
abbrev pub text : List ℕ → Lexeme → List ℕ
text bytes l = slice_of bytes l.from l.to

-- the set that a name of the text stands for
unfoldable pub set_at : List ℕ → Names → Lexeme → Result LocSet PolicyFault
set_at bytes known l = or_fault (Unknown l.place) (set_named known (text bytes l))

-- the locations so far, and those of some names
abbrev pub joined : List ℕ → Names → LocSet → List Lexeme → Result LocSet PolicyFault
joined bytes known so_far [] = Ok so_far
joined bytes known so_far (l ∷ ls) = do
  s ← set_at bytes known l
  joined bytes known (union_of so_far s) ls

-- a list of names stands for all locations of its names
abbrev pub set_of_names : List ℕ → Names → List Lexeme → Result LocSet PolicyFault
set_of_names bytes known ls = joined bytes known no_location ls

-- each of them passes
abbrev pub each : {A : Type 0} → (A → Result ⊤ PolicyFault) → List A → Result ⊤ PolicyFault
each check [] = Ok tt
each check (x ∷ xs) = do
  _ ← check x
  each check xs

abbrev pub name_known : List ℕ → Names → Lexeme → Result ⊤ PolicyFault
name_known bytes known l = do
  _ ← set_at bytes known l
  Ok tt

abbrev pub arg_known : List ℕ → Names → Arg → Result ⊤ PolicyFault
arg_known bytes known arg.Any = Ok tt
arg_known bytes known (arg.Names ls) = each (name_known bytes known) ls

abbrev pub step_known : List ℕ → Names → Step → Result ⊤ PolicyFault
step_known bytes known (step.Call c) = each (arg_known bytes known) c.args
step_known bytes known (step.Above p) = Ok tt
step_known bytes known step.Or = Ok tt
step_known bytes known step.And = Ok tt
step_known bytes known step.Not = Ok tt

-- the names behind an item whose names are known
abbrev pub learnt : List ℕ → Names → Item → Result Names PolicyFault
learnt bytes known (Define name members) = do
  s ← set_of_names bytes known members
  Ok (with_group known name.place (text bytes name) s)
learnt bytes known (Originate prefix names) = do
  _ ← each (name_known bytes known) names
  Ok known
learnt bytes known (State s) = do
  _ ← each (step_known bytes known) s.ranked
  _ ← arg_known bytes known s.from
  Ok known

-- the names behind all items
abbrev pub all_learnt : List ℕ → Names → List Item → Result Names PolicyFault
all_learnt bytes known [] = Ok known
all_learnt bytes known (item ∷ items) = do
  next ← learnt bytes known item
  all_learnt bytes next items
