-- What a run of `compare` has written, and for what.
use Rattle.std.specs.Prelude.{◌≡◌, ℕ, ◌<◌, ◌^◌, IsTrue, List, Option}
use Rattle.list_law.specs.Members.{IsIn}
use Rattle.net_base.specs.Network.{PlainNet}
use Rattle.net_base.specs.Prefixes.{PlainPrefix, IsPrefix}
use Rattle.policy_base.specs.Policies.{PlainPolicy}
use Rattle.compare_base.specs.Ranks.{IsAlike, IsSame}
use Rattle.comparison.specs.Changed.{is_changed}
use Rattle.comparison.specs.declared.values.ComparedPair.{ComparedPair}
use Rattle.comparison_law.specs.Laws.{IsUnlike, IsUntold}
use Rattle.comparison_maker.specs.declared.refusal.ComparisonRefusal.{ComparisonRefusal}
use Rattle.compare_report.specs.Changes.{last_line}
use Rattle.compare_jobs.specs.Compared.{IsCompared, IsPastLimit}
use Rattle.compare_jobs.specs.Laws.{AreServedAlike}
use Rattle.compare_jobs.specs.Refused.{refusal_line}
use Rattle.run_base.specs.Reading.{Holds}
use Rattle.run_base.specs.Said.{Whole}
use Rattle.propane_run.specs.Asked.{AsksCompare}

-- `out` grew by exactly the text of what the new policy changes beside the old one. It is `cases N changed 0` exactly where the policies say the
-- same of every prefix, and then a configuration is right for the one exactly where it is right for the other. Of a prefix whose pair isn't told
-- as differing they say the same, too. Each pair that is told differs: it has a prefix, and of none that has it do they say the same.
pub record ComparesRight {O : Type 0} (holds : Holds) (taken : O → Option (List ℕ)) (words : List (List ℕ)) (out out' : O) : Type 0 where
  pub net : PlainNet
  pub old : PlainPolicy
  pub new : PlainPolicy
  pub asked : AsksCompare holds words net old new
  pub bytes : List ℕ
  pub written : Whole taken bytes out out'
  pub compared : IsCompared net old new bytes
  pub unchanged : (n : ℕ) → n < 2 ^ 64 → bytes ≡ last_line n 0 → IsSame net old new × AreServedAlike net old new
  pub same : IsSame net old new → (n : ℕ) × (n < 2 ^ 64) × (bytes ≡ last_line n 0)
  pub untold : (p : PlainPrefix) → IsPrefix p → IsUntold net old new compared.pairs p → IsAlike net old new p
  pub told : (x : ComparedPair) → IsIn compared.pairs x → IsTrue (is_changed net x) → IsUnlike net old new x

-- `err` grew by exactly the line of the limit that is passed first: by a case of one of the policies, or by the pairs of their cases.
pub record TellsComparisonLimit {E : Type 0} (holds : Holds) (taken : E → Option (List ℕ)) (words : List (List ℕ)) (err err' : E) : Type 0 where
  pub net : PlainNet
  pub old : PlainPolicy
  pub new : PlainPolicy
  pub asked : AsksCompare holds words net old new
  pub refusal : ComparisonRefusal
  pub past : IsPastLimit net old new refusal
  pub written : Whole taken (refusal_line net refusal) err err'
