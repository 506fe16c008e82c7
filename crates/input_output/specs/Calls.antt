-- Calls that are numbered from 1, some of which are to fail.
use Rattle.std.specs.Prelude.{ℕ, List, ◌++◌, [], ◌∷◌, Contains}
use Rattle.input_output.specs.Outside.{next}

-- How many calls were made, and the numbers of the calls that are to fail.
pub record Plan : Type 0 where
  pub made : ℕ
  pub failing : List ℕ

-- No call was made, and none is to fail.
abbrev pub fresh : Plan
fresh = record { made = 0; failing = [] }

-- One more call is made.
abbrev pub after_call : Plan → Plan
after_call plan = record { made = next plan.made; failing = plan.failing }

-- The call of this number is to fail too.
abbrev pub with_failing : Plan → ℕ → Plan
with_failing plan call = record { made = plan.made; failing = plan.failing ++ call ∷ [] }

-- The next call is to fail.
abbrev pub NextFails : Plan → Type 0
NextFails plan = Contains plan.failing (next plan.made)
