-- What comes of reading names.
use Rattle.std.specs.Prelude.{◌≡◌, ◌⊎◌, ℕ, ◌≤◌, ◌<◌, List, [], ◌∷◌, ◌++◌, length, Option, Some, IsSome, IfSome, codes, map, slice_get, unwrap_or}
use Rattle.input_output.specs.declared.limits.TheConstants.{INPUT_BYTES}
use Rattle.input_output.specs.Outside.{Rose}
use Rattle.run_base.specs.Said.{Said, line, no_memory}
use Rattle.run_base.specs.declared.outcome.Status.{Status}
use Rattle.run_base.specs.declared.outcome.Status.TheVariants.{ReadFault, BadInput}

-- the most bytes of a named input
abbrev pub most : ℕ
most = INPUT_BYTES

-- what each name holds, where that is told
abbrev pub Holds : Type 0
Holds = List ℕ → Option (List ℕ)

-- the word at a place, and the names at these places
abbrev pub word_at : List (List ℕ) → ℕ → List ℕ
word_at words k = unwrap_or (slice_get words k) []

abbrev pub names_at : List (List ℕ) → List ℕ → List (List ℕ)
names_at words places = map (word_at words) places

-- the name is one of these
abbrev pub IsAmong : List (List ℕ) → List ℕ → Type 0
IsAmong [] name = ⊥
IsAmong (n ∷ ns) name = (name ≡ n) ⊎ IsAmong ns name

-- the count of a name rose
abbrev pub RoseOf : (List ℕ → ℕ) → (List ℕ → ℕ) → List ℕ → Type 0
RoseOf before now name = Rose (before name) (now name)

-- How often a reading failed, by how the run is to end: once where a name couldn't be read, and never otherwise.
abbrev pub FailedAs : Status → ℕ → ℕ → Type 0
FailedAs ReadFault before now = Rose before now
FailedAs _ before now = now ≡ before

-- Inputs that were only read: a name holds what it held, no count fell, and a name that is sure stays so, with its count.
pub record AreOnlyRead (held held' : Holds) (count count' : List ℕ → ℕ) (is_sure is_sure' : List ℕ → Type 0) : Type 0 where
  pub holds : (name : List ℕ) → held' name ≡ held name
  pub counts : (name : List ℕ) → count name ≤ count' name
  pub sure : (name : List ℕ) → is_sure name → (count' name ≡ count name) × is_sure' name

-- what is said of a name that can't be read, and of one that holds too much
abbrev pub unread : List ℕ → Said
unread name = line ReadFault (codes "propane: " ++ codes "cannot read " ++ name ++ codes "\n")

abbrev pub too_long : List ℕ → Said
too_long name = line BadInput (codes "propane: " ++ codes "too long " ++ name ++ codes "\n")

-- These are the bytes of the name, where that is told, and not too many.
pub record IsHeld (holds : Holds) (name bytes : List ℕ) : Type 0 where
  pub told : IfSome (holds name) (λ held. bytes ≡ held)
  pub within : length bytes ≤ most

-- The name was not read, and this is said of it.
abbrev pub IsStop : Holds → (List ℕ → Type 0) → List ℕ → Said → Type 0
IsStop holds rose name what =
    (what ≡ no_memory)
    ⊎ (what ≡ unread name) × rose name
    ⊎ (what ≡ too_long name) × IfSome (holds name) (λ held. most < length held)

-- The name was read, and what comes of its bytes is said; or it was not.
abbrev pub Reads : Holds → (List ℕ → Type 0) → List ℕ → (List ℕ → Said → Type 0) → Said → Type 0
Reads holds rose name next what =
    IsStop holds rose name what
    ⊎ (bytes : List ℕ) × IsHeld holds name bytes × next bytes what

-- The names are read one after another.
abbrev pub ReadsAll : Holds → (List ℕ → Type 0) → List (List ℕ) → (List (List ℕ) → Said → Type 0) → Said → Type 0
ReadsAll holds rose [] next what = next [] what
ReadsAll holds rose (n ∷ ns) next what = Reads holds rose n (λ b. ReadsAll holds rose ns (λ bs. next (b ∷ bs))) what

-- One of the names was not read, and this is said of it.
abbrev pub IsStopAmong : Holds → (List ℕ → Type 0) → List (List ℕ) → Said → Type 0
IsStopAmong holds rose names what = ReadsAll holds rose names (λ _ _. ⊥) what

-- These are the bytes of the names, where told, and none has too many.
abbrev pub AllHeld : Holds → List (List ℕ) → List (List ℕ) → Type 0
AllHeld holds [] [] = Unit {0}
AllHeld holds (n ∷ ns) (b ∷ bs) = IsHeld holds n b × AllHeld holds ns bs
AllHeld holds _ _ = ⊥

-- the bytes of each name are told
abbrev pub AreTold : Holds → List (List ℕ) → Type 0
AreTold holds [] = Unit {0}
AreTold holds (n ∷ ns) = IsSome (holds n) × AreTold holds ns

-- What is to be said where all is told: of the first name that holds too much, or else what comes of the bytes.
abbrev pub SaidOfTold : Holds → List (List ℕ) → (List (List ℕ) → Said → Type 0) → Said → Type 0
SaidOfTold holds [] next what = next [] what
SaidOfTold holds (n ∷ ns) next what =
    (bytes : List ℕ) × (holds n ≡ Some bytes)
    × ((most < length bytes) × (what ≡ too_long n) ⊎ (length bytes ≤ most) × SaidOfTold holds ns (λ bs. next (bytes ∷ bs)) what)
