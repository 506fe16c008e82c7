-- What a run of `impact` that ends with Done has written, and for what.
use Rattle.std.specs.Prelude.{ℕ, List, Option}
use Rattle.net_base.specs.Network.{PlainNet}
use Rattle.net_base.specs.Prefixes.{PlainPrefix}
use Rattle.policy_base.specs.Policies.{PlainPolicy}
use Rattle.report_jobs.specs.Impacts.{IsImpactText}
use Rattle.run_base.specs.Reading.{Holds}
use Rattle.run_base.specs.Said.{Whole}
use Rattle.propane_run.specs.declared.command.Command.TheVariants.{Impact}
use Rattle.propane_run.specs.Asked.{AsksFor}
use Rattle.propane_run.specs.Compilation.{Compilation}

-- `out` grew by exactly the text of what single cuts change for the prefix: the best rank that the policy leaves each claimed source, and
-- for each cut the sources that get another. The configuration that is compiled from the policy keeps it, so it gives each source that rank.
pub record ImpactsRight {O : Type 0} (holds : Holds) (taken : O → Option (List ℕ)) (words : List (List ℕ)) (prefix : PlainPrefix) (out out' : O) : Type 0 where
  pub net : PlainNet
  pub policy : PlainPolicy
  pub asked : AsksFor holds words (Impact prefix) net policy
  pub made : Compilation net policy
  pub bytes : List ℕ
  pub written : Whole taken bytes out out'
  pub shown : IsImpactText net policy made.config prefix bytes
