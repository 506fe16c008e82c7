-- Patterns that are read are patterns.
use Rattle.std.proofs.Common.{◌≡◌, ℕ, List, [], ◌∷◌, ◌++◌, Ok, subst, arith}
use Rattle.std.specs.Prelude.{◌&&◌, nat_le}
use Rattle.std.specs.List.{AllByRecursion}
use Rattle.std.proofs.lemmas.Bool.{and_parts}
use Rattle.list_law.proofs.Each.{AllByRecursion-push}
use borrow.Author.Tests.{leb-true}
use Rattle.net_base.specs.Network.{PlainNet}
use Rattle.net_base.specs.Prefixes.{PlainPrefix, PlainPattern, IsPrefix, IsPattern, only}
use Rattle.net_base.specs.PrefixText.{prefix_spelled, length_number}
use Rattle.net_base.specs.Steps.{◌>>=◌, or_fault, unless}
use Rattle.net_base.proofs.PrefixLemmas.{prefix_spelled-IsPrefix}
use Rattle.net_base.proofs.StepLemmas.{bind_ok, unless_ok}
use Rattle.policy_tokens.specs.declared.fault.PolicyFault.TheVariants.{PrefixBad}
use Rattle.policy_grammar.specs.declared.lexeme.Lexeme.{Lexeme}
use Rattle.policy_grammar.specs.Raw.{RawPattern, RawStatement, Item}
use Rattle.policy_grammar.specs.Raw.RawPattern.{All, Only, UpTo}
use Rattle.policy_grammar.specs.Raw.Item.{Define, Originate, State}
use Rattle.policy_rules.specs.Checks.{text}
use Rattle.policy_rules.specs.Figures.{prefix_at, upto_at, pattern_at}
use Rattle.policy_rules.specs.KnownNames.{Names}
use Rattle.policy_base.specs.Policies.{PlainStatement}
use Rattle.policy_parser.proofs.BuiltParts.{statement_parts}
use Rattle.policy_parser.proofs.SpelledPrefixes.{or_bad_ok}
use Rattle.policy_values.specs.Built.{patterns_of, statement_of, statements_of}

prefix_is : (bytes : List ℕ) (l : Lexeme) (p : PlainPrefix) → prefix_at bytes l ≡ Ok p → IsPrefix p
prefix_is bytes l p e = prefix_spelled-IsPrefix (text bytes l) p (or_bad_ok l (prefix_spelled (text bytes l)) p e)

all_is : IsPattern (record { base = record { bits = 0; len = 0 }; upto = 32 })
all_is = record { prefix = record { wide = omega arith; within = omega arith; clean = omega arith }; least = omega arith; most = omega arith }

only_is : (p : PlainPrefix) → IsPrefix p → IsPattern (only p)
only_is p is = record { prefix = is; least = omega arith; most = is.within }

upto_is : (bytes : List ℕ) (base : PlainPrefix) (l : Lexeme) (t : PlainPattern) → IsPrefix base → upto_at bytes base l ≡ Ok t → IsPattern t
upto_is bytes base l t is e =
    let a =
    bind_ok (or_fault (PrefixBad l.place) (length_number (text bytes l)))
    (λ n. unless (PrefixBad l.place) (nat_le base.len n && nat_le n 32) >>= λ _. Ok (record { base = base; upto = n })) t e in
    let b = bind_ok (unless (PrefixBad l.place) (nat_le base.len a.0 && nat_le a.0 32)) (λ _. Ok (record { base = base; upto = a.0 })) t a.2 in
    let h = and_parts (nat_le base.len a.0) (nat_le a.0 32) (unless_ok (PrefixBad l.place) _ b.0 b.1) in
    let made : PlainPattern = record { base = base; upto = a.0 } in
    let same : made ≡ t = cc in
    subst IsPattern same (record { prefix = is; least = leb-true base.len a.0 h.0; most = leb-true a.0 32 h.1 })

pattern_is : (bytes : List ℕ) (r : RawPattern) (t : PlainPattern) → pattern_at bytes r ≡ Ok t → IsPattern t
pattern_is bytes All t e =
    let made : PlainPattern = record { base = record { bits = 0; len = 0 }; upto = 32 } in
    let same : made ≡ t = cc in
    subst IsPattern same all_is
pattern_is bytes (Only l) t e =
    let b = bind_ok (prefix_at bytes l) (λ p. Ok (only p)) t e in
    let same : only b.0 ≡ t = cc in
    subst IsPattern same (only_is b.0 (prefix_is bytes l b.0 b.1))
pattern_is bytes (UpTo l m) t e =
    let b = bind_ok (prefix_at bytes l) (λ p. upto_at bytes p m) t e in
    upto_is bytes b.0 m t (prefix_is bytes l b.0 b.1) b.2

patterns_are : (bytes : List ℕ) (so_far : List PlainPattern) (raw : List RawPattern) (ts : List PlainPattern) → patterns_of bytes so_far raw ≡ Ok ts
    → AllByRecursion IsPattern so_far → AllByRecursion IsPattern ts
patterns_are bytes so_far [] ts e before = let same : so_far ≡ ts = cc in subst (AllByRecursion IsPattern) same before
patterns_are bytes so_far (r ∷ raw) ts e before =
    let b = bind_ok (pattern_at bytes r) (λ t. patterns_of bytes (so_far ++ t ∷ []) raw) ts e in
    patterns_are bytes (so_far ++ b.0 ∷ []) raw ts b.2 (AllByRecursion-push IsPattern so_far b.0 before (pattern_is bytes r b.0 b.1))

statement_patterns_are : (bytes : List ℕ) (net : PlainNet) (known : Names) (s : RawStatement) (t : PlainStatement) → statement_of bytes net known s ≡ Ok t → AllByRecursion IsPattern t.patterns
statement_patterns_are bytes net known s t e = patterns_are bytes [] s.patterns t.patterns (statement_parts bytes net known s t e).0 tt

-- each pattern of each of them is one
abbrev pub HavePatterns : List PlainStatement → Type 0
HavePatterns ts = AllByRecursion (λ (t : PlainStatement). AllByRecursion IsPattern t.patterns) ts

pub statements_have_patterns : (bytes : List ℕ) (net : PlainNet) (known : Names) (so_far : List PlainStatement) (items : List Item) (ts : List PlainStatement)
    → statements_of bytes net known so_far items ≡ Ok ts → HavePatterns so_far → HavePatterns ts
statements_have_patterns bytes net known so_far [] ts e before = let same : so_far ≡ ts = cc in subst HavePatterns same before
statements_have_patterns bytes net known so_far (Define n m ∷ items) ts e before = statements_have_patterns bytes net known so_far items ts e before
statements_have_patterns bytes net known so_far (Originate p ns ∷ items) ts e before = statements_have_patterns bytes net known so_far items ts e before
statements_have_patterns bytes net known so_far (State s ∷ items) ts e before =
    let b = bind_ok (statement_of bytes net known s) (λ t. statements_of bytes net known (so_far ++ t ∷ []) items) ts e in
    statements_have_patterns bytes net known (so_far ++ b.0 ∷ []) items ts b.2
    (AllByRecursion-push (λ (t : PlainStatement). AllByRecursion IsPattern t.patterns) so_far b.0 before (statement_patterns_are bytes net known s b.0 b.1))
