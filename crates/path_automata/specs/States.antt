-- The states of an automaton.
use Rattle.std.specs.Prelude.{◌≡◌, ℕ, List, ◌++◌, Some, slice_get}
use Rattle.net_base.specs.declared.loc.LocSet.{LocSet}
use Rattle.path_exprs.specs.Expression.{Expression}
use Rattle.path_exprs.specs.Runs.{start_of}
use Rattle.path_terms.specs.Values.{values}
use Rattle.path_automata.specs.declared.states.Automata.{Automata}
use Rattle.path_automata.specs.Found.{states_in}

-- A state is what is left of each expression. These are the states that were found, in the order of their numbers.
abbrev pub states_of : Automata → List (List Expression)
states_of a = states_in (values a.terms) a.found.keys

-- the number is that of this state
abbrev pub IsState : Automata → ℕ → List Expression → Type 0
IsState a number s = slice_get (states_of a) number ≡ Some s

-- its first state is the start of these expressions; the set `full` is that of all locations
abbrev pub Begins : Automata → LocSet → List Expression → Type 0
Begins a full es = IsState a 0 (start_of full es)

-- no state has two numbers
abbrev pub AreApart : List (List Expression) → Type 0
AreApart ss = (i j : ℕ) (s : List Expression) → slice_get ss i ≡ Some s → slice_get ss j ≡ Some s → i ≡ j

-- each state keeps its number, and others may follow
abbrev pub Extends : List (List Expression) → List (List Expression) → Type 0
Extends old new = (more : List (List Expression)) × (new ≡ old ++ more)
