-- Not every policy is printable, and not every network has names.
use Rattle.std.proofs.Common.{[], ◌∷◌, refl}
use Rattle.std.proofs.lemmas.Bool.{false≢true}
use Rattle.net_base.specs.NameRule.{is_name}
use Rattle.net_base.specs.Network.{PlainNet}
use Rattle.policy_base.specs.declared.call.Call.TheVariants.{Any}
use Rattle.policy_base.specs.declared.policy.FromSet.TheVariants as from_set
use Rattle.policy_base.specs.Policies.{call, PlainPolicy}
use Rattle.policy_text.specs.Laws.{SomePoliciesHaveNoText, SomeNetsHaveNoNames}

-- a statement without a pattern
abbrev without_patterns : PlainPolicy
without_patterns = record { origins = []; statements = record { patterns = []; ranked = call Any; from = from_set.Any } ∷ [] }

pub policies_without_text : SomePoliciesHaveNoText
policies_without_text net = (without_patterns, λ printable. printable.statements.0.patterns refl)

-- a router without a name
abbrev without_names : PlainNet
without_names = record { routers = record { name = []; asn = 0; id = 0 } ∷ []; peers = []; links = [] }

pub nets_without_names : SomeNetsHaveNoNames
unfolding is_name
nets_without_names = (without_names, λ named. false≢true named.0)
