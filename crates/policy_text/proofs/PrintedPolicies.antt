-- A printed policy is read again as the same policy.
use Rattle.std.proofs.Common.{◌≡◌, ℕ, ◌≤◌, List, length, Ok, None, refl}
use Rattle.std.specs.List.{AllByRecursion, IsDistinct}
use Rattle.std.specs.Str.{bytes_eq}
use Rattle.list_law.proofs.Each.{AllByRecursion-both, AllByRecursion-weaker}
use Rattle.net_base.specs.Network.{PlainNet, IsNet, sites}
use Rattle.net_base.specs.Prefixes.{IsPrefix, IsPattern}
use Rattle.policy_tokens.specs.declared.token.Token.{Token}
use Rattle.policy_tokens.specs.Places.{place_of}
use Rattle.policy_tokens.specs.Tokens.{tokens_of}
use Rattle.policy_grammar.specs.Raw.{Item}
use Rattle.policy_grammar.specs.Lexemes.{lexemes_of}
use Rattle.policy_grammar.specs.Deep.{first_deep}
use Rattle.policy_grammar.specs.Items.{items_of}
use Rattle.policy_rules.specs.KnownNames.{Names, net_names}
use Rattle.policy_rules.specs.Checks.{all_learnt}
use Rattle.policy_base.specs.declared.policy.Origin.{Origin}
use Rattle.policy_base.specs.Policies.{PlainStatement, PlainPolicy}
use Rattle.policy_parser.specs.Spelled.{items_spelled, names_spelled, rules_kept, policy_built, spelled}
use Rattle.policy_text.specs.PolicyText.{policy_text}
use Rattle.policy_text.specs.Printable.{IsPrintable, IsPrintableStatement, IsPrintableOrigin}
use Rattle.policy_text.specs.Values.{HasNames, IsOriginValue, IsStatementValue, IsPolicyValue}
use Rattle.policy_text.proofs.CutPolicies.{lexemes_are_words}
use Rattle.policy_text.proofs.ReadItems.{IsNamed, IsReadableStatement}
use Rattle.policy_text.proofs.ReadPolicies.{Reads-items}
use Rattle.policy_text.proofs.Depths.{first_deep-none}
use Rattle.policy_text.proofs.Lookups.{site_names, net_names-sites}
use Rattle.policy_text.proofs.Unions.{sites_known}
use Rattle.policy_text.proofs.BuildItems.{IsFineStatement, IsFineOrigin}
use Rattle.policy_text.proofs.BuildPolicies.{names_learnt, keeps_rules, builds}
use Rattle.policy_text.proofs.Premises.{small_net, fine_statement, readable_statement, fine_origin, named_origin}

items_there : (bytes : List ℕ) (ts : List Token) (items : List Item) → tokens_of bytes ≡ Ok ts
    → first_deep 0 (lexemes_of bytes ts (place_of bytes (length bytes))) ≡ None
    → items_of (lexemes_of bytes ts (place_of bytes (length bytes))) ≡ Ok items
    → items_spelled bytes ≡ Ok items
unfolding items_spelled
items_there bytes ts items tokens deep read = rw (tokens, deep, read) refl

names_there : (bytes : List ℕ) (net : PlainNet) (items : List Item) → net_names net ≡ sites_known (sites net)
    → all_learnt bytes (sites_known (sites net)) items ≡ Ok (sites_known (sites net)) → names_spelled bytes net items ≡ Ok (sites_known (sites net))
unfolding names_spelled
names_there bytes net items names learnt = rw (names, learnt) refl

policy_there : (bytes : List ℕ) (net : PlainNet) (items : List Item) (known : Names) (policy : PlainPolicy) → items_spelled bytes ≡ Ok items
    → names_spelled bytes net items ≡ Ok known → rules_kept bytes net known items ≡ Ok tt
    → policy_built bytes net known items ≡ Ok policy → spelled net bytes ≡ Ok policy
unfolding spelled
policy_there bytes net items known policy read names rules built = rw (read, names, rules) built

-- The text of a printable policy spells that policy.
pub spelled-policy_text : (net : PlainNet) (policy : PlainPolicy) → IsNet net → HasNames net → IsPolicyValue policy → IsPrintable net policy → spelled net (policy_text net policy) ≡ Ok policy
spelled-policy_text net policy is named values printable =
    let bytes : List ℕ = policy_text net policy in
    let apart : IsDistinct bytes_eq (site_names (sites net)) = is.names in
    let small : length (sites net) ≤ 768 = small_net net is in
    let patterns = AllByRecursion-weaker IsStatementValue (λ (s : PlainStatement). AllByRecursion IsPattern s.patterns) policy.statements (λ s h. h.patterns) values.statements in
    let brackets = AllByRecursion-weaker (IsPrintableStatement net) _ policy.statements (λ s h. h.brackets) printable.statements in
    let prefixes = AllByRecursion-weaker IsOriginValue (λ (o : Origin). IsPrefix o.prefix) policy.origins (λ o h. h.prefix) values.origins in
    let origins = AllByRecursion-both (IsPrintableOrigin net) IsOriginValue (λ (o : Origin). IsNamed net o.at) (named_origin bytes net apart small) policy.origins printable.origins values.origins in
    let fine_origins =
    AllByRecursion-both (IsPrintableOrigin net) IsOriginValue (IsFineOrigin bytes net apart small)
    (fine_origin bytes net apart small) policy.origins printable.origins values.origins in
    let readable =
    AllByRecursion-both (IsPrintableStatement net) IsStatementValue (IsReadableStatement bytes net)
    (readable_statement bytes net apart small) policy.statements printable.statements values.statements in
    let fine =
    AllByRecursion-both (IsPrintableStatement net) IsStatementValue (IsFineStatement bytes net apart small)
    (fine_statement bytes net apart small) policy.statements printable.statements values.statements in
    let lexemes = lexemes_are_words net policy named prefixes patterns in
    let found = Reads-items bytes net policy origins readable _ lexemes.2 in
    let read = items_there bytes lexemes.0 found.0 lexemes.1 (first_deep-none bytes net policy brackets _ lexemes.2) found.1 in
    let names = names_there bytes net found.0 (net_names-sites net apart) (names_learnt bytes net apart small policy printable.limits fine_origins fine found.0 found.2) in
    policy_there bytes net found.0 (sites_known (sites net)) policy read names
    (keeps_rules bytes net apart small policy printable.limits fine_origins fine found.0 found.2)
    (builds bytes net apart small policy printable.limits fine_origins fine found.0 found.2)
