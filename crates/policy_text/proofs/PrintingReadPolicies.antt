-- Policies that are read are printable.
use Rattle.std.proofs.Common.{[]}
use Rattle.std.specs.List.{AllByRecursion}
use Rattle.net_base.specs.Network.{PlainNet, IsNet, is_router}
use Rattle.net_base.specs.Prefixes.{IsPrefix, IsPattern}
use Rattle.policy_base.specs.declared.policy.Origin.{Origin}
use Rattle.policy_base.specs.Policies.{PlainStatement, PlainPolicy, IsPolicyOf}
use Rattle.policy_text.specs.Printable.{HoldsOnly, IsPrintableStatement, IsPrintableOrigin}
use Rattle.policy_text.specs.Values.{IsOriginValue, IsStatementValue}
use Rattle.policy_text.proofs.PrintedPolicies.{spelled-policy_text}
use Rattle.list_law.proofs.Each.{AllByRecursion-both, AllByRecursion-weaker}
use Rattle.policy_parser.proofs.FittingPolicies.{read_policies_fit, IsBuilt, is_built, origins_made, ranks_kept}
use Rattle.topology.proofs.TextLaws.{net_read}
use Rattle.topology.proofs.LawfulNames.{names_read}
use Rattle.policy_text.specs.Laws.{ReadPoliciesArePrintable, ReadNetsHaveNames, ReadPoliciesAreReadAgain}
use Rattle.policy_text.proofs.ReadForms.{items_have_forms}
use Rattle.policy_text.proofs.PrintedNames.{names_stand}
use Rattle.policy_text.proofs.Statements.{IsReadStatement, IsReadOrigin, statements_read, origins_read}
use Rattle.list_law.proofs.Members.{AllByRecursion-from_IsIn}

-- ---- what is known of it as a policy of the network

is_at_routers : (net : PlainNet) (policy : PlainPolicy) → IsPolicyOf net policy → AllByRecursion (λ (o : Origin). HoldsOnly (is_router net) o.at) policy.origins
is_at_routers net policy fits = AllByRecursion-from_IsIn (λ (o : Origin). HoldsOnly (is_router net) o.at) policy.origins (λ o here l on. fits.routers o l here on)

has_prefixes : (net : PlainNet) (policy : PlainPolicy) → IsPolicyOf net policy → AllByRecursion (λ (o : Origin). IsPrefix o.prefix) policy.origins
has_prefixes net policy fits = AllByRecursion-from_IsIn (λ (o : Origin). IsPrefix o.prefix) policy.origins (λ o here. fits.prefixes o here)

has_patterns : (net : PlainNet) (policy : PlainPolicy) → IsPolicyOf net policy → AllByRecursion (λ (s : PlainStatement). AllByRecursion IsPattern s.patterns) policy.statements
has_patterns net policy fits =
    AllByRecursion-from_IsIn (λ (s : PlainStatement). AllByRecursion IsPattern s.patterns) policy.statements
    (λ s here. AllByRecursion-from_IsIn IsPattern s.patterns (λ t there. fits.patterns s t here there))

-- ---- the laws

pub read_printable : ReadPoliciesArePrintable
read_printable net text policy rules h =
    let b : IsBuilt net text policy = is_built net text policy h in
    let fits : IsPolicyOf net policy = read_policies_fit net text policy h in
    let forms = items_have_forms text b.items b.read in
    let stand = names_stand text net b.known b.items rules forms b.names in
    let statements = statements_read net rules text b.known stand [] b.items policy.statements tt tt tt forms (ranks_kept text net b.known b.items b.rules) b.calls b.places b.statements tt in
    let origins = origins_read net rules text b.known stand [] b.items policy.origins forms (origins_made text b.known b.items policy.origins b.origins) tt in (
      record {
        limits = fits.rules;
        origins =
            AllByRecursion-both (λ (o : Origin). HoldsOnly (is_router net) o.at) IsReadOrigin (IsPrintableOrigin net)
            (λ o routers is. (routers, is.0)) policy.origins (is_at_routers net policy fits) origins;
        statements = AllByRecursion-weaker (IsReadStatement net) (IsPrintableStatement net) policy.statements (λ s is. is.0) statements;
      },
      record {
        origins =
            AllByRecursion-both IsReadOrigin (λ (o : Origin). IsPrefix o.prefix) IsOriginValue (λ o is prefix. record { prefix = prefix; at = is.1 }) policy.origins origins
            (has_prefixes net policy fits);
        statements =
            AllByRecursion-both (IsReadStatement net) (λ (s : PlainStatement). AllByRecursion IsPattern s.patterns) IsStatementValue
            (λ s is are. is.1 are) policy.statements statements (has_patterns net policy fits);
      },
    )

pub nets_have_names : ReadNetsHaveNames
nets_have_names text net h = names_read text net h

pub read_again : ReadPoliciesAreReadAgain
read_again topology text net policy n p =
    let is : IsNet net = net_read topology net n in
    let x = read_printable net text policy is p in
    spelled-policy_text net policy is (nets_have_names topology net n) x.1 x.0
