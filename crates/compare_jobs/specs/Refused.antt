-- What is told of policies that aren't compared.
use Rattle.std.specs.Prelude.{◌≢◌, ℕ, List, [], ◌++◌, codes, Option}
use Rattle.net_base.specs.Network.{PlainNet}
use Rattle.case_graphs.specs.Limits.{compile_refusal}
use Rattle.case_graphs.specs.declared.refusal.LimitRefusal.TheVariants as limit
use Rattle.compare_lines.specs.Rows.{number_text}
use Rattle.comparison_maker.specs.declared.refusal.ComparisonRefusal.{ComparisonRefusal}
use Rattle.comparison_maker.specs.declared.refusal.ComparisonRefusal.TheVariants.{Old, New, TooManySteps, NoMemory}
use Rattle.refusal_lines.specs.RefusalLines.{named_refusal_line}

-- it is a limit that is passed, and not want of memory
abbrev pub IsLimit : ComparisonRefusal → Type 0
IsLimit (Old e) = e ≢ limit.NoMemory
IsLimit (New e) = e ≢ limit.NoMemory
IsLimit (TooManySteps one other) = Unit {0}
IsLimit NoMemory = ⊥

-- the statements of the pair with which the graphs of pairs have too many steps
unfoldable pub too_many_pairs : Option ℕ → Option ℕ → List ℕ
too_many_pairs old new = codes "propane: refused 9 too-many-pairs statement " ++ number_text old ++ codes " now " ++ number_text new ++ codes "\n"

-- the line that tells it: for one of the policies what the compiler would write, with which of the two it is
abbrev pub refusal_line : PlainNet → ComparisonRefusal → List ℕ
refusal_line net (Old e) = named_refusal_line (codes "old ") net (compile_refusal e)
refusal_line net (New e) = named_refusal_line (codes "new ") net (compile_refusal e)
refusal_line net (TooManySteps one other) = too_many_pairs one other
refusal_line net NoMemory = []
