-- What the automaton keeps of its states.
use Rattle.std.specs.Prelude.{◌≡◌, ℕ, [], List, Some, Vec, map, slice_get}
use Rattle.std.specs.Global.{Global}
use Rattle.std.specs.List.{list_all}
use Rattle.path_exprs.specs.Expression.{Expression}
use Rattle.path_exprs.specs.Normal.{is_never}
use Rattle.path_exprs.specs.Runs.{first_with}
use Rattle.path_terms.specs.Terms.{at}
use Rattle.path_automata.specs.declared.facts.Facts.{Facts}

-- the states whose terms these are
abbrev pub states_in : List Expression → List (Vec ℕ Global) → List (List Expression)
states_in values keys = map (λ v. map (at values) v.items) keys

-- what is asked of a state
abbrev pub facts_of : List Expression → Facts
facts_of s = record { rank = first_with [] s; dead = list_all is_never s }

-- the facts of each state stand at its number
abbrev pub AreFacts : List Facts → List (List Expression) → Type 0
AreFacts facts states = (number : ℕ) (s : List Expression) → slice_get states number ≡ Some s → slice_get facts number ≡ Some (facts_of s)
