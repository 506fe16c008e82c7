-- Which next states are known.
use Rattle.std.specs.Prelude.{◌≡◌, ℕ, ◌+◌, ◌*◌, ◌<◌, Bool, IsTrue, List, Some, length, map, slice_get, slice_index_or, []}
use Rattle.std.specs.Ordering.{is_eq}
use lib.Pointwise.{pointwise}
use Rattle.path_exprs.specs.Derivative.{derivative}
use Rattle.path_exprs.specs.Expression.{Expression}
use Rattle.path_exprs.specs.Order.{compare}
use Rattle.path_automata.specs.declared.memo.Memo.{Memo}
use Rattle.path_automata.specs.declared.memo.TheConstants.{UNKNOWN}
use Rattle.path_automata.specs.Classes.{InSameSets, SameClass}

-- the place of a state and a location's class
abbrev pub IsPlace : Memo → ℕ → ℕ → ℕ → Type 0
IsPlace m state at place = (c : ℕ) × (slice_get m.classes.items at ≡ Some c) × (place ≡ state * m.count + c)

-- it is known that the location leads from the state to the next one
abbrev pub Notes : Memo → ℕ → ℕ → ℕ → Type 0
Notes m state at next = (place : ℕ) × IsPlace m state at place × (slice_get m.next.items place ≡ Some next) × (next < UNKNOWN)

-- the same expressions, each in its place
abbrev pub same_state : List Expression → List Expression → Bool
same_state es fs = pointwise (λ e f. is_eq (compare e f)) es fs

-- What is known is right: the next state is the derivative of the state by the location.
abbrev pub IsRight : Memo → List (List Expression) → Type 0
IsRight m ss = (state at next : ℕ) → Notes m state at next
    → (state < length ss) × (next < length ss) × IsTrue (same_state (slice_index_or ss next []) (map (derivative at) (slice_index_or ss state [])))

-- Locations of one class are in the same sets of every state.
abbrev pub AreAlike : Memo → List (List Expression) → Type 0
AreAlike m ss = (x y state : ℕ) (s : List Expression) → SameClass m.classes.items x y → slice_get ss state ≡ Some s → InSameSets x y s

-- no state stands twice among the states
abbrev pub NoTwice : List (List Expression) → Type 0
NoTwice ss = (i j : ℕ) (s : List Expression) → slice_get ss i ≡ Some s → slice_get ss j ≡ Some s → i ≡ j
