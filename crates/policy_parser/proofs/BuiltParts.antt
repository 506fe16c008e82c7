-- The parts of what is built of the items of a text.
use Rattle.std.proofs.Common.{◌≡◌, ℕ, List, [], length, None, Ok, sym, ap, ◌∙◌}
use Rattle.policy_base.specs.declared.limits.TheConstants.{ORIGINS}
use Rattle.net_base.specs.Network.{PlainNet}
use Rattle.net_base.proofs.StepLemmas.{bind_ok, ok_same}
use Rattle.net_base.specs.declared.place.Place.{Place}
use Rattle.policy_tokens.specs.declared.fault.PolicyFault.TheVariants.{Deep}
use Rattle.policy_tokens.specs.declared.kind.Kind.TheVariants as kind
use Rattle.policy_tokens.specs.declared.token.Token.{Token}
use Rattle.policy_tokens.specs.Places.{place_of}
use Rattle.policy_tokens.specs.Tokens.{tokens_of}
use Rattle.policy_grammar.specs.Deep.{first_deep}
use Rattle.policy_grammar.specs.Items.{items_of}
use Rattle.policy_grammar.specs.Lexemes.{lexemes_of}
use Rattle.policy_grammar.specs.declared.lexeme.Lexeme.{Lexeme}
use Rattle.policy_grammar.specs.Raw.{RawStatement, Item}
use Rattle.policy_rules.specs.KnownNames.{Names}
use Rattle.policy_rules.specs.Checks.{set_of_names, each}
use Rattle.policy_rules.specs.Figures.{prefix_at, figures_fine}
use Rattle.policy_rules.specs.Ranks.{ranks_fine}
use Rattle.policy_rules.specs.Origins.{origins_fine, once_from}
use Rattle.policy_rules.specs.Counts.{within, items_within, calls_within, paths_within}
use Rattle.policy_base.specs.declared.policy.Origin.{Origin}
use Rattle.policy_base.specs.Policies.{PlainStatement, PlainPolicy}
use Rattle.policy_values.specs.Built.{patterns_of, ranking_of_steps, from_of, statement_of, statements_of, origin_of, origins_of}
use Rattle.policy_parser.specs.Spelled.{none_at, items_spelled, rules_kept, origins_spelled, policy_built, pairs}
use Rattle.policy_parser.proofs.Steps.{none_at_ok}

-- of the items
pub items_parts : (bytes : List ℕ) (items : List Item) → items_spelled bytes ≡ Ok items
    → (tokens : List Token) × (tokens_of bytes ≡ Ok tokens) × (first_deep 0 (lexemes_of bytes tokens (place_of bytes (length bytes))) ≡ None)
    × (items_of (lexemes_of bytes tokens (place_of bytes (length bytes))) ≡ Ok items)
unfolding items_spelled
items_parts bytes items e =
    let end : Place = place_of bytes (length bytes) in
    let a = bind_ok (tokens_of bytes) _ items e in
    let b = bind_ok (none_at Deep (first_deep 0 (lexemes_of bytes a.0 end))) _ items a.2 in
    (a.0, a.1, none_at_ok Deep (first_deep 0 (lexemes_of bytes a.0 end)) b.0 b.1, b.2)

-- of an origin
pub origin_parts : (bytes : List ℕ) (known : Names) (p : Lexeme) (ns : List Lexeme) (o : Origin) → origin_of bytes known p ns ≡ Ok o
    → (prefix_at bytes p ≡ Ok o.prefix) × (set_of_names bytes known ns ≡ Ok o.at)
unfolding origin_of
origin_parts bytes known p ns o e =
    let a = bind_ok (prefix_at bytes p) _ o e in
    let b = bind_ok (set_of_names bytes known ns) _ o a.2 in
    let made : Origin = record { prefix = a.0; at = b.0 } in
    let same : made ≡ o = ok_same made o b.2 in
    (a.1 ∙ ap (λ (x : Origin). Ok x.prefix) same, b.1 ∙ ap (λ (x : Origin). Ok x.at) same)

-- of a statement
pub statement_parts : (bytes : List ℕ) (net : PlainNet) (known : Names) (s : RawStatement) (t : PlainStatement) → statement_of bytes net known s ≡ Ok t
    → (patterns_of bytes [] s.patterns ≡ Ok t.patterns) × (ranking_of_steps bytes net known s.ranked ≡ Ok t.ranked) × (from_of bytes known s.from ≡ Ok t.from)
unfolding statement_of
statement_parts bytes net known s t e =
    let a = bind_ok (patterns_of bytes [] s.patterns) _ t e in
    let b = bind_ok (ranking_of_steps bytes net known s.ranked) _ t a.2 in
    let c = bind_ok (from_of bytes known s.from) _ t b.2 in
    let made : PlainStatement = record { patterns = a.0; ranked = b.0; from = c.0 } in
    let same : made ≡ t = ok_same made t c.2 in
    (a.1 ∙ ap (λ (x : PlainStatement). Ok x.patterns) same, b.1 ∙ ap (λ (x : PlainStatement). Ok x.ranked) same, c.1 ∙ ap (λ (x : PlainStatement). Ok x.from) same)

-- of the rules that were kept
pub rules_parts : (bytes : List ℕ) (net : PlainNet) (known : Names) (items : List Item) → rules_kept bytes net known items ≡ Ok tt
    → (each ranks_fine items ≡ Ok tt) × (each (origins_fine bytes net known) items ≡ Ok tt) × (once_from bytes [] items ≡ Ok tt)
unfolding rules_kept
rules_parts bytes net known items kept =
    let a = bind_ok (each (figures_fine bytes) items) _ tt kept in
    let b = bind_ok (each ranks_fine items) _ tt a.2 in
    let c = bind_ok (each (origins_fine bytes net known) items) _ tt b.2 in
    (b.1, c.1, c.2)

-- of all origins
pub origins_parts : (bytes : List ℕ) (known : Names) (items : List Item) (os : List Origin) → origins_spelled bytes known items ≡ Ok os
    → (items_within items ≡ Ok tt) × (origins_of bytes known [] items ≡ Ok os) × (within kind.Origins ORIGINS (pairs os) ≡ Ok tt)
unfolding origins_spelled
origins_parts bytes known items os e =
    let a = bind_ok (items_within items) _ os e in
    let b = bind_ok (origins_of bytes known [] items) _ os a.2 in
    let c = bind_ok (within kind.Origins ORIGINS (pairs b.0)) _ os b.2 in
    let same : b.0 ≡ os = ok_same b.0 os c.2 in
    (a.1, b.1 ∙ ap Ok same, ap (λ (x : List Origin). within kind.Origins ORIGINS (pairs x)) (sym same) ∙ c.1)

-- of a policy
pub policy_parts : (bytes : List ℕ) (net : PlainNet) (known : Names) (items : List Item) (policy : PlainPolicy) → policy_built bytes net known items ≡ Ok policy
    → (origins_spelled bytes known items ≡ Ok policy.origins) × (each calls_within items ≡ Ok tt) × (each paths_within items ≡ Ok tt)
    × (statements_of bytes net known [] items ≡ Ok policy.statements)
unfolding policy_built
policy_parts bytes net known items policy e =
    let a = bind_ok (origins_spelled bytes known items) _ policy e in
    let b = bind_ok (each calls_within items) _ policy a.2 in
    let c = bind_ok (each paths_within items) _ policy b.2 in
    let d = bind_ok (statements_of bytes net known [] items) _ policy c.2 in
    let made : PlainPolicy = record { origins = a.0; statements = d.0 } in
    let same : made ≡ policy = ok_same made policy d.2 in
    (a.1 ∙ ap (λ (x : PlainPolicy). Ok x.origins) same, b.1, c.1, d.1 ∙ ap (λ (x : PlainPolicy). Ok x.statements) same)
