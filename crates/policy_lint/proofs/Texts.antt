-- The text of a policy has tokens.
use Rattle.std.proofs.Common.{◌≡◌, ℕ, List, Ok}
use Rattle.net_base.proofs.StepLemmas.{bind_ok}
use Rattle.net_base.specs.Network.{PlainNet}
use Rattle.policy_base.specs.Policies.{PlainPolicy}
use Rattle.policy_parser.proofs.FittingPolicies.{is_built}
use Rattle.policy_parser.specs.Spelled.{items_spelled, spelled}
use Rattle.policy_tokens.specs.declared.token.Token.{Token}
use Rattle.policy_tokens.specs.Tokens.{tokens_of}

pub tokens_spelled : (net : PlainNet) (bytes : List ℕ) (policy : PlainPolicy) → spelled net bytes ≡ Ok policy → (tokens : List Token) × (tokens_of bytes ≡ Ok tokens)
unfolding items_spelled
tokens_spelled net bytes policy h =
    let built = is_built net bytes policy h in
    let tokens = bind_ok (tokens_of bytes) _ built.items built.read in
    (tokens.0, tokens.1)
