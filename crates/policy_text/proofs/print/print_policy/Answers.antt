use Rattle.std.proofs.Common.{◌≡◌, ◌∙◌, List, ap, map, rules, subst, append_assoc}
use Rattle.std.specs.Prelude.{IsTrue}
use Rattle.std.specs.List.{AllByRecursion}
use Rattle.list_law.proofs.Each.{AllByRecursion-append}
use Rattle.net_base.specs.NameRule.{is_name}
use Rattle.net_base.specs.declared.net.Site.{Site}
use Rattle.policy_base.specs.declared.policy.Statement.{Statement}
use Rattle.policy_base.specs.Policies.{plain_statement, policy_of}
use Rattle.policy_parser.specs.Spelled.{spelled}
use Rattle.policy_text.specs.PolicyText.{policy_text}
use Rattle.policy_text.specs.Values.{HasNames, IsOriginValue, IsPolicyValue, IsStatementValue}
use Rattle.policy_text.proofs.PrintedPolicies.{spelled-policy_text}
use Rattle.policy_text.proofs.print.print_policy.Goals as goal

abbrev IsNamed : Site → Type 0
IsNamed s = IsTrue (is_name s.name)

pub returns-clause-read : goal.returns-clause-read
returns-clause-read c = λ printable.
    let net = c.args.net.now in
    let policy = policy_of c.args.policy.now in
    let text : c.push_statements.new.text.items ≡ policy_text net policy = search (rules, append_assoc) in
    let named : HasNames net =
    AllByRecursion-append IsNamed net.routers net.peers (subst (AllByRecursion IsNamed) c.routers.ensures.routers c.have_names.ensures)
    (subst (AllByRecursion IsNamed) c.peers.ensures.peers c.have_names-2.ensures) in
    let values : IsPolicyValue policy = record {
      origins = subst (AllByRecursion IsOriginValue) c.origins.ensures.origins c.in_ok-push_origins.ensures.rules;
      statements = subst (λ (ss : List Statement). AllByRecursion IsStatementValue (map plain_statement ss)) c.statements.ensures.statements c.in_ok-push_statements.ensures.rules;
    } in
    ap (spelled net) text ∙ spelled-policy_text net policy c.routers.ensures.rules named values printable
