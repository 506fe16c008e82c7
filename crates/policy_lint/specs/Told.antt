-- What is told of statements and alternatives, by marks.
use Rattle.std.specs.Prelude.{ℕ, ◌+◌, ◌-◌, Bool, false, not, List, [], ◌∷◌, ◌++◌, map, filter, slice_index_or, if◌then◌else◌}
use Rattle.policy_base.specs.Meaning.{alternative_count}
use Rattle.policy_base.specs.Policies.{PlainStatement}
use Rattle.bit_rows.specs.Tables.{PlainRows, has_at}
use Rattle.policy_lint.specs.declared.finding.Finding.{Finding}
use Rattle.policy_lint.specs.declared.finding.Finding.TheVariants.{Covered, Idle, Unreached}
use Rattle.policy_lint.specs.Findings.{numbers}

-- the mark at a place; none past the last one
abbrev pub marked : List Bool → ℕ → Bool
marked marks k = slice_index_or marks k false

-- of each number from 1 that passes a test
abbrev pub told : (ℕ → Finding) → (ℕ → Bool) → ℕ → List Finding
told finding passes count = map finding (filter passes (numbers count))

-- the covered statements, where the mark of the statement numbered n stands at n - 1
abbrev pub told_covered : List Bool → ℕ → List Finding
told_covered covered count = told Covered (λ n. marked covered (n - 1)) count

-- the idle ones, where a mark at its number tells that a statement has a case
abbrev pub told_idle : List Bool → ℕ → List Finding
told_idle have count = told Idle (λ n. not (marked have n)) count

-- the alternatives of the statement numbered n whose rank isn't set in its row
abbrev pub told_unreached : PlainRows → ℕ → ℕ → List Finding
told_unreached ranks n count = told (Unreached n) (λ k. not (has_at ranks n k)) count

-- those of the statements from the one numbered n on that have a case
abbrev pub told_from : PlainRows → List Bool → ℕ → List PlainStatement → List Finding
told_from ranks have n [] = []
told_from ranks have n (s ∷ ss) = (if marked have n then told_unreached ranks n (alternative_count s.ranked) else []) ++ told_from ranks have (n + 1) ss
