-- Policies that are read fit their network.
use Rattle.std.proofs.Common.{◌≡◌, ℕ, List, [], length, Ok}
use Rattle.std.specs.Prelude.{IsTrue}
use Rattle.std.specs.List.{AllByRecursion}
use Rattle.std.proofs.lemmas.Bool.{lt-ltb}
use Rattle.net_base.specs.Network.{PlainNet, is_router}
use Rattle.net_base.specs.Prefixes.{PlainPattern, IsPrefix, IsPattern}
use Rattle.net_base.specs.Sets.{holds}
use Rattle.net_base.proofs.StepLemmas.{bind_ok}
use Rattle.policy_grammar.specs.Raw.{Item}
use Rattle.policy_rules.specs.Checks.{each}
use Rattle.policy_rules.specs.Counts.{calls_within, paths_within}
use Rattle.policy_rules.specs.KnownNames.{Names}
use Rattle.policy_rules.specs.Origins.{origins_fine}
use Rattle.policy_rules.specs.Ranks.{ranks_fine}
use Rattle.policy_base.specs.declared.policy.Origin.{Origin}
use Rattle.policy_base.specs.Policies.{PlainPolicy, PlainStatement, IsPolicy, IsPolicyOf}
use Rattle.policy_values.specs.Built.{origins_of, statements_of}
use Rattle.policy_parser.specs.Spelled.{items_spelled, names_spelled, rules_kept, origins_spelled, spelled}
use Rattle.policy_parser.proofs.BuiltParts.{rules_parts, origins_parts, policy_parts}
use Rattle.policy_parser.proofs.BuiltPolicies.{is_policy}
use Rattle.policy_parser.proofs.SpelledPrefixes.{spelled-HavePrefixes}
use Rattle.list_law.specs.Members.{IsIn}
use Rattle.list_law.proofs.Each.{AllByRecursion_at}
use Rattle.net_base.proofs.HeldSets.{AreBelow}
use Rattle.policy_parser.proofs.FittingItems.{names_below}
use Rattle.policy_parser.proofs.FittingRouters.{AreAtRouters, origins_at_routers}
use Rattle.policy_parser.proofs.FittingPatterns.{HavePatterns, statements_have_patterns}

-- What a policy is built of, and the rules that were kept.
pub record IsBuilt (net : PlainNet) (bytes : List ℕ) (policy : PlainPolicy) : Type 0 where
  pub items : List Item
  pub known : Names
  pub read : items_spelled bytes ≡ Ok items
  pub names : names_spelled bytes net items ≡ Ok known
  pub rules : rules_kept bytes net known items ≡ Ok tt
  pub origins : origins_spelled bytes known items ≡ Ok policy.origins
  pub calls : each calls_within items ≡ Ok tt
  pub places : each paths_within items ≡ Ok tt
  pub statements : statements_of bytes net known [] items ≡ Ok policy.statements

pub is_built : (net : PlainNet) (bytes : List ℕ) (policy : PlainPolicy) → spelled net bytes ≡ Ok policy → IsBuilt net bytes policy
unfolding spelled
is_built net bytes policy h =
    let items = bind_ok (items_spelled bytes) _ policy h in
    let known = bind_ok (names_spelled bytes net items.0) _ policy items.2 in
    let kept = bind_ok (rules_kept bytes net known.0 items.0) _ policy known.2 in
    let parts = policy_parts bytes net known.0 items.0 policy kept.2 in
    record {
      items = items.0;
      known = known.0;
      read = items.1;
      names = known.1;
      rules = kept.1;
      origins = parts.0;
      calls = parts.1;
      places = parts.2;
      statements = parts.3;
    }

-- ---- the rules on ranks and on origins were kept

pub ranks_kept : (bytes : List ℕ) (net : PlainNet) (known : Names) (items : List Item) → rules_kept bytes net known items ≡ Ok tt → each ranks_fine items ≡ Ok tt
ranks_kept bytes net known items kept = (rules_parts bytes net known items kept).0

origins_kept : (bytes : List ℕ) (net : PlainNet) (known : Names) (items : List Item) → rules_kept bytes net known items ≡ Ok tt → each (origins_fine bytes net known) items ≡ Ok tt
origins_kept bytes net known items kept = (rules_parts bytes net known items kept).1

-- the origins are those of the items
pub origins_made : (bytes : List ℕ) (known : Names) (items : List Item) (os : List Origin) → origins_spelled bytes known items ≡ Ok os → origins_of bytes known [] items ≡ Ok os
origins_made bytes known items os h = (origins_parts bytes known items os h).1

at_routers : (net : PlainNet) (bytes : List ℕ) (policy : PlainPolicy) → IsBuilt net bytes policy → AreAtRouters net policy.origins
at_routers net bytes policy b =
    origins_at_routers bytes net b.known [] b.items policy.origins tt (names_below bytes net b.known b.items b.names) (origins_kept bytes net b.known b.items b.rules)
    (origins_made bytes b.known b.items policy.origins b.origins) tt

-- each `originate` item of a policy that is read names routers alone
pub read_routers : (net : PlainNet) (bytes : List ℕ) (policy : PlainPolicy) → spelled net bytes ≡ Ok policy
    → (o : Origin) (l : ℕ) → IsIn policy.origins o → IsTrue (holds o.at l) → IsTrue (is_router net l)
read_routers net bytes policy h o l in_origins on =
    let here : AreBelow (length net.routers) o.at =
    AllByRecursion_at (λ (x : Origin). AreBelow (length net.routers) x.at) policy.origins in_origins.0 o
    (at_routers net bytes policy (is_built net bytes policy h)) in_origins.1 in
    lt-ltb l (length net.routers) (here l on)

-- each of its patterns is one
pub read_patterns : (net : PlainNet) (bytes : List ℕ) (policy : PlainPolicy) → spelled net bytes ≡ Ok policy
    → (s : PlainStatement) (t : PlainPattern) → IsIn policy.statements s → IsIn s.patterns t → IsPattern t
read_patterns net bytes policy h s t in_statements in_patterns =
    let b = is_built net bytes policy h in
    let have : HavePatterns policy.statements = statements_have_patterns bytes net b.known [] b.items policy.statements b.statements tt in
    let here = AllByRecursion_at (λ (x : PlainStatement). AllByRecursion IsPattern x.patterns) policy.statements in_statements.0 s have in_statements.1 in
    AllByRecursion_at IsPattern s.patterns in_patterns.0 t here in_patterns.1

-- each of its prefixes is one
pub read_prefixes : (net : PlainNet) (bytes : List ℕ) (policy : PlainPolicy) → spelled net bytes ≡ Ok policy → (o : Origin) → IsIn policy.origins o → IsPrefix o.prefix
read_prefixes net bytes policy h o in_origins = AllByRecursion_at (λ (x : Origin). IsPrefix x.prefix) policy.origins in_origins.0 o (spelled-HavePrefixes net bytes policy h) in_origins.1

-- and it is within the limits
pub read_rules : (net : PlainNet) (bytes : List ℕ) (policy : PlainPolicy) → spelled net bytes ≡ Ok policy → IsPolicy policy
read_rules net bytes policy h =
    let b = is_built net bytes policy h in
    is_policy bytes net b.known b.items policy.origins policy.statements b.rules b.origins b.statements

-- A policy that is read fits its network.
pub read_policies_fit : (net : PlainNet) (bytes : List ℕ) (policy : PlainPolicy) → spelled net bytes ≡ Ok policy → IsPolicyOf net policy
read_policies_fit net bytes policy h = record {
  rules = read_rules net bytes policy h;
  prefixes = read_prefixes net bytes policy h;
  routers = read_routers net bytes policy h;
  patterns = read_patterns net bytes policy h;
}
