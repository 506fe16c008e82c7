-- The numbers and words of refusals.
use Rattle.std.specs.Prelude.{ℕ, List, codes}
use Rattle.case_core.specs.declared.refusal.CompileRefusal.{CompileRefusal}
use Rattle.case_core.specs.declared.refusal.CompileRefusal.TheVariants.{TooManyRanks, TooManyStates, TooManySteps, SourceWithoutPath, MixedSource, NoEvidence, NoMemory}

-- the number of a refusal: a case is judged in this order
abbrev pub number_of : CompileRefusal → ℕ
number_of (TooManyRanks k count) = 1
number_of (TooManyStates k) = 2
number_of (TooManySteps k) = 3
number_of (SourceWithoutPath k r) = 4
number_of (MixedSource k r with without) = 5
number_of (NoEvidence k g r) = 6
number_of NoMemory = 0

-- its word
abbrev pub word_of : CompileRefusal → List ℕ
word_of (TooManyRanks k count) = codes "too-many-ranks"
word_of (TooManyStates k) = codes "too-many-states"
word_of (TooManySteps k) = codes "too-many-steps"
word_of (SourceWithoutPath k r) = codes "source-without-path"
word_of (MixedSource k r with without) = codes "mixed-source"
word_of (NoEvidence k g r) = codes "no-evidence"
word_of NoMemory = codes "no-memory"
