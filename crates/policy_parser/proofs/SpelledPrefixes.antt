-- The prefixes of a policy that a text spells.
use Rattle.std.proofs.Common.{◌≡◌, ℕ, List, [], ◌∷◌, ◌++◌, Result, Ok, Err}
use Rattle.std.specs.List.{AllByRecursion}
use Rattle.list_law.proofs.Each.{AllByRecursion-push}
use Rattle.net_base.specs.Network.{PlainNet}
use Rattle.net_base.specs.Prefixes.{PlainPrefix, IsPrefix}
use Rattle.net_base.specs.PrefixText.{prefix_spelled}
use Rattle.net_base.specs.declared.prefix_text.PrefixFault.{PrefixFault}
use Rattle.net_base.proofs.PrefixLemmas.{prefix_spelled-IsPrefix}
use Rattle.policy_grammar.specs.declared.lexeme.Lexeme.{Lexeme}
use Rattle.policy_grammar.specs.Raw.{Item}
use Rattle.policy_grammar.specs.Raw.Item.{Define, Originate, State}
use Rattle.policy_rules.specs.Checks.{text}
use Rattle.policy_rules.specs.Figures.{or_bad}
use Rattle.policy_rules.specs.KnownNames.{Names}
use Rattle.policy_base.specs.declared.policy.Origin.{Origin}
use Rattle.policy_base.specs.Policies.{PlainPolicy}
use Rattle.policy_values.specs.Built.{origin_of, origins_of}
use Rattle.policy_parser.specs.Spelled.{items_spelled, names_spelled, rules_kept, policy_built, spelled}
use Rattle.net_base.proofs.StepLemmas.{bind_ok}
use Rattle.policy_parser.proofs.BuiltParts.{origin_parts, origins_parts, policy_parts}

abbrev pub HavePrefixes : List Origin → Type 0
HavePrefixes os = AllByRecursion (λ (o : Origin). IsPrefix o.prefix) os

-- what a lexeme spells
pub or_bad_ok : (l : Lexeme) (r : Result PlainPrefix PrefixFault) (p : PlainPrefix) → or_bad l r ≡ Ok p → r ≡ Ok p
or_bad_ok l (Ok q) p h = cc
or_bad_ok l (Err e) p h = absurd (cc)

origins_have : (bytes : List ℕ) (known : Names) (so_far : List Origin) (items : List Item) (os : List Origin)
    → origins_of bytes known so_far items ≡ Ok os → HavePrefixes so_far → HavePrefixes os
origins_have bytes known so_far [] os e before = let same : so_far ≡ os = cc in rw (← same) before
origins_have bytes known so_far (Define n m ∷ items) os e before = origins_have bytes known so_far items os e before
origins_have bytes known so_far (State s ∷ items) os e before = origins_have bytes known so_far items os e before
origins_have bytes known so_far (Originate p ns ∷ items) os e before =
    let b = bind_ok (origin_of bytes known p ns) (λ o. origins_of bytes known (so_far ++ o ∷ []) items) os e in
    let read = or_bad_ok p (prefix_spelled (text bytes p)) b.0.prefix (origin_parts bytes known p ns b.0 b.1).0 in
    origins_have bytes known (so_far ++ b.0 ∷ []) items os b.2 (AllByRecursion-push (λ (o : Origin). IsPrefix o.prefix) so_far b.0 before (prefix_spelled-IsPrefix (text bytes p) b.0.prefix read))

built_have : (bytes : List ℕ) (net : PlainNet) (known : Names) (items : List Item) (policy : PlainPolicy) → policy_built bytes net known items ≡ Ok policy → HavePrefixes policy.origins
built_have bytes net known items policy h =
    let spelt = (policy_parts bytes net known items policy h).0 in
    origins_have bytes known [] items policy.origins (origins_parts bytes known items policy.origins spelt).1 tt

-- each of them is a prefix
pub spelled-HavePrefixes : (net : PlainNet) (bytes : List ℕ) (policy : PlainPolicy) → spelled net bytes ≡ Ok policy → HavePrefixes policy.origins
unfolding spelled
spelled-HavePrefixes net bytes policy h =
    let items = bind_ok (items_spelled bytes) _ policy h in
    let known = bind_ok (names_spelled bytes net items.0) _ policy items.2 in
    let rules = bind_ok (rules_kept bytes net known.0 items.0) _ policy known.2 in
    built_have bytes net known.0 items.0 policy rules.2
