-- What two texts come to.
use Rattle.std.specs.Prelude.{◌≡◌, ℕ, List}
use Rattle.propane_library.specs.declared.came.Came.{Came}
use Rattle.propane_library.specs.declared.came.Came.TheVariants.{Compiled, Refused, Faulty, NoRoom}
use Rattle.propane_library.specs.Texts.{IsRightText, IsRefusalLine, IsFaultLine}

-- what is told of the texts is so
abbrev pub ComesTo : List ℕ → List ℕ → Came → Type 0
ComesTo topology policy_text (Compiled text) = IsRightText topology policy_text text.items
ComesTo topology policy_text (Refused line) = IsRefusalLine topology policy_text line.items
ComesTo topology policy_text (Faulty line) = IsFaultLine topology policy_text line.items
ComesTo topology policy_text NoRoom = Unit {0}

-- this line of a refusal is told, unless there was no room
abbrev pub TellsRefusal : List ℕ → Came → Type 0
TellsRefusal told (Refused line) = line.items ≡ told
TellsRefusal told NoRoom = Unit {0}
TellsRefusal told _ = ⊥

-- a text is given, unless there was no room
abbrev pub GivesText : Came → Type 0
GivesText (Compiled text) = Unit {0}
GivesText NoRoom = Unit {0}
GivesText _ = ⊥

-- both are of one kind, with the same bytes, unless there was no room for one
abbrev pub AreAlike : Came → Came → Type 0
AreAlike NoRoom _ = Unit {0}
AreAlike _ NoRoom = Unit {0}
AreAlike (Compiled one) (Compiled other) = one.items ≡ other.items
AreAlike (Refused one) (Refused other) = one.items ≡ other.items
AreAlike (Faulty one) (Faulty other) = one.items ≡ other.items
AreAlike _ _ = ⊥
