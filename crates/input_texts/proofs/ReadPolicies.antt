-- What holds of a policy that was read.
use Rattle.std.proofs.Common.{◌≡◌, ℕ, List, Result, Ok, Err, subst}
use Rattle.std.specs.Prelude.{IfOk}
use Rattle.net_base.specs.Network.{PlainNet}
use Rattle.policy_base.specs.CaseNumbers.{OriginsAreRouters}
use Rattle.policy_base.specs.Policies.{IsPolicyOf, PolicyLists, policy_of}
use Rattle.policy_tokens.specs.declared.fault.PolicyFault.{PolicyFault}
use Rattle.net_base.specs.Gives.{GivesUnless}
use Rattle.policy_tokens.specs.declared.fault.PolicyFault.TheVariants.{NoMemory}
use Rattle.policy_parser.specs.Spelled.{spelled}
use Rattle.policy_parser.proofs.FittingPolicies.{read_policies_fit}
use Rattle.run_base.specs.declared.outcome.Stop.{Stop}

module _ (net : PlainNet) (bytes : List ℕ) (read : Result PolicyLists PolicyFault) (gives : GivesUnless NoMemory policy_of read (spelled net bytes)) where
  pub read_fits : (result : Result PolicyLists Stop) → IfOk result (λ policy. read ≡ Ok policy) → IfOk result (λ policy. IsPolicyOf net (policy_of policy))
  read_fits (Ok policy) same = read_policies_fit net bytes (policy_of policy) (subst (λ (r : Result PolicyLists PolicyFault). GivesUnless NoMemory policy_of r (spelled net bytes)) same gives)
  read_fits (Err s) same = tt

  pub read_routers : (result : Result PolicyLists Stop) → IfOk result (λ policy. read ≡ Ok policy) → IfOk result (λ policy. OriginsAreRouters net policy.origins)
  read_routers (Ok policy) same = (read_fits (Ok policy) same).routers
  read_routers (Err s) same = tt
