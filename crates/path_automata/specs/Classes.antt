-- Classes of locations.
use Rattle.std.specs.Prelude.{◌≡◌, ℕ, ◌<◌, Bool, List, Some, IsTrue, slice_get}
use Rattle.std.specs.List.{list_all}
use Rattle.net_base.specs.declared.loc.LocSet.{LocSet}
use Rattle.path_exprs.specs.Expression.{Expression}
use Rattle.path_automata.specs.Sets.{agrees, sets_pass}

-- The sets of an expression were added: a test that all sets pass now was passed by those before, and the expression's sets pass it
-- where those of the earlier expressions do.
abbrev pub Gathers : List LocSet → List LocSet → List Expression → Expression → Type 0
Gathers old new earlier e = (p : LocSet → Bool) → IsTrue (list_all p new) → IsTrue (list_all p old) × (IsTrue (list_all (sets_pass p) earlier) → IsTrue (sets_pass p e))

-- The two locations have the same class.
abbrev pub SameClass : List ℕ → ℕ → ℕ → Type 0
SameClass classes x y = (c : ℕ) × (slice_get classes x ≡ Some c) × (slice_get classes y ≡ Some c)

-- The two locations are in the same sets of each expression.
abbrev pub InSameSets : ℕ → ℕ → List Expression → Type 0
InSameSets x y es = IsTrue (list_all (sets_pass (agrees x y)) es)

-- Locations of one class are in the same sets of the expression.
abbrev pub IsClassed : List ℕ → Expression → Type 0
IsClassed classes e = (x y : ℕ) → SameClass classes x y → IsTrue (sets_pass (agrees x y) e)

-- Locations of one class are in the same sets of each expression.
abbrev pub AreSorted : List ℕ → List Expression → Type 0
AreSorted classes es = (x y : ℕ) → SameClass classes x y → InSameSets x y es

-- There are so many classes.
abbrev pub AreBelow : List ℕ → ℕ → Type 0
AreBelow classes count = (at c : ℕ) → slice_get classes at ≡ Some c → c < count
