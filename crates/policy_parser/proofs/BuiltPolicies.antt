-- What is built of items that keep the rules is a policy.
use Rattle.std.proofs.Common.{◌≡◌, ℕ, ◌+◌, ◌≤◌, ◌<◌, List, [], ◌∷◌, ◌++◌, length, map, Ok, leb-true, sym, ap, ◌∙◌, arith, length-append}
use Rattle.std.specs.Prelude.{⊤, sum_by, not}
use Rattle.std.specs.List.{IsDistinct, list_any}
use Rattle.std.proofs.lemmas.List.{map_push}
use Rattle.std.proofs.lemmas.List.Sums.{sum_by-cons, sum_by-append}
use Rattle.std.proofs.lemmas.Map.Keys.{IsDistinct-push}
use Rattle.std.proofs.lemmas.Bool.{not-true}
use Rattle.net_base.specs.Network.{PlainNet}
use Rattle.policy_tokens.specs.declared.kind.Kind.{Kind}
use Rattle.policy_tokens.specs.declared.kind.Kind.TheVariants as kind
use Rattle.net_base.specs.Prefixes.{PlainPrefix, PlainPattern, same_prefix}
use Rattle.net_base.specs.Steps.{◌>>=◌, unless}
use Rattle.policy_tokens.specs.declared.fault.PolicyFault.TheVariants.{OriginTwice, TooMany}
use Rattle.policy_grammar.specs.Raw.{RawPattern, RawStatement, Item}
use Rattle.policy_grammar.specs.Raw.Item.{Define, Originate, State}
use Rattle.policy_rules.specs.KnownNames.{Names}
use Rattle.policy_rules.specs.Figures.{prefix_at, pattern_at}
use Rattle.policy_rules.specs.Origins.{once_from}
use Rattle.policy_rules.specs.Counts.{amount, counted, capped, within}
use Rattle.policy_base.specs.declared.policy.Origin.{Origin}
use Rattle.policy_base.specs.Policies.{PlainStatement, IsPolicy}
use Rattle.policy_values.specs.Built.{patterns_of, statement_of, statements_of, origin_of, origins_of}
use Rattle.policy_parser.specs.Spelled.{rules_kept, origins_spelled}
use Rattle.net_base.proofs.StepLemmas.{bind_ok, unless_ok}
use Rattle.policy_parser.proofs.BuiltParts.{origin_parts, statement_parts, rules_parts, origins_parts}
use Rattle.policy_parser.proofs.Steps.{same_prefix_equiv}

abbrev prefixes : List Origin → List PlainPrefix
prefixes os = map (λ (o : Origin). o.prefix) os

-- as many origins as items that originate
origins_count : (bytes : List ℕ) (known : Names) (so_far : List Origin) (items : List Item) (os : List Origin)
    → origins_of bytes known so_far items ≡ Ok os → length os ≡ length so_far + sum_by (amount kind.Prefixes) items
origins_count bytes known so_far [] os e = let same : so_far ≡ os = cc in rw (← same) (omega arith)
origins_count bytes known so_far (Define n m ∷ items) os e = rw (sum_by-cons (amount kind.Prefixes) (Define n m) items) (omega (arith, origins_count bytes known so_far items os e))
origins_count bytes known so_far (State s ∷ items) os e = rw (sum_by-cons (amount kind.Prefixes) (State s) items) (omega (arith, origins_count bytes known so_far items os e))
origins_count bytes known so_far (Originate p ns ∷ items) os e =
    let b = bind_ok (origin_of bytes known p ns) (λ o. origins_of bytes known (so_far ++ o ∷ []) items) os e in
    rw (sum_by-cons (amount kind.Prefixes) (Originate p ns) items) (omega (arith, origins_count bytes known (so_far ++ b.0 ∷ []) items os b.2, length-append so_far (b.0 ∷ [])))

-- no prefix is originated twice
origins_distinct : (bytes : List ℕ) (known : Names) (so_far : List Origin) (items : List Item) (os : List Origin)
    → origins_of bytes known so_far items ≡ Ok os → once_from bytes (prefixes so_far) items ≡ Ok tt → IsDistinct same_prefix (prefixes so_far) → IsDistinct same_prefix (prefixes os)
origins_distinct bytes known so_far [] os e once so_distinct = let same : so_far ≡ os = cc in rw (← same) so_distinct
origins_distinct bytes known so_far (Define n m ∷ items) os e once so_distinct = origins_distinct bytes known so_far items os e once so_distinct
origins_distinct bytes known so_far (State s ∷ items) os e once so_distinct = origins_distinct bytes known so_far items os e once so_distinct
origins_distinct bytes known so_far (Originate p ns ∷ items) os e once so_distinct =
    let b = bind_ok (origin_of bytes known p ns) (λ o. origins_of bytes known (so_far ++ o ∷ []) items) os e in
    let read = (origin_parts bytes known p ns b.0 b.1).0 in
    let before = prefixes so_far in
    let c = bind_ok (prefix_at bytes p) (λ q. unless (OriginTwice p.place) (not (list_any (same_prefix q) before)) >>= λ _. once_from bytes (before ++ q ∷ []) items) tt once in
    let q : c.0 ≡ b.0.prefix = cc in
    let d = bind_ok (unless (OriginTwice p.place) (not (list_any (same_prefix c.0) before))) (λ _. once_from bytes (before ++ c.0 ∷ []) items) tt c.2 in
    let fresh = not-true _ (unless_ok (OriginTwice p.place) _ d.0 d.1) in
    let more : prefixes (so_far ++ b.0 ∷ []) ≡ before ++ c.0 ∷ [] = map_push (λ (o : Origin). o.prefix) so_far b.0 ∙ ap (λ (x : PlainPrefix). before ++ x ∷ []) (sym q) in
    origins_distinct bytes known (so_far ++ b.0 ∷ []) items os b.2 (rw more d.2) (rw more (IsDistinct-push same_prefix_equiv before c.0 so_distinct fresh))

-- as many patterns as the text has
patterns_count : (bytes : List ℕ) (so_far : List PlainPattern) (raw : List RawPattern) (ps : List PlainPattern) → patterns_of bytes so_far raw ≡ Ok ps → length ps ≡ length so_far + length raw
patterns_count bytes so_far [] ps e = let same : so_far ≡ ps = cc in rw (← same) (omega arith)
patterns_count bytes so_far (r ∷ raw) ps e =
    let b = bind_ok (pattern_at bytes r) (λ q. patterns_of bytes (so_far ++ q ∷ []) raw) ps e in
    omega (arith, patterns_count bytes (so_far ++ b.0 ∷ []) raw ps b.2, length-append so_far (b.0 ∷ []))

-- as many patterns as it has
pub statement_patterns : (bytes : List ℕ) (net : PlainNet) (known : Names) (s : RawStatement) (t : PlainStatement) → statement_of bytes net known s ≡ Ok t → length t.patterns ≡ length s.patterns
statement_patterns bytes net known s t e = omega (arith, patterns_count bytes [] s.patterns t.patterns (statement_parts bytes net known s t e).0)

abbrev pattern_sum : List PlainStatement → ℕ
pattern_sum ts = sum_by (λ (t : PlainStatement). length t.patterns) ts

-- as many statements and patterns as the text has
statements_count : (bytes : List ℕ) (net : PlainNet) (known : Names) (so_far : List PlainStatement) (items : List Item) (ts : List PlainStatement)
    → statements_of bytes net known so_far items ≡ Ok ts
    → (length ts ≡ length so_far + sum_by (amount kind.Statements) items) × (pattern_sum ts ≡ pattern_sum so_far + sum_by (amount kind.Patterns) items)
statements_count bytes net known so_far [] ts e = let same : so_far ≡ ts = cc in rw (← same) (omega arith, omega arith)
statements_count bytes net known so_far (Define n m ∷ items) ts e =
    let h = statements_count bytes net known so_far items ts e in
    rw (sum_by-cons (amount kind.Statements) (Define n m) items, sum_by-cons (amount kind.Patterns) (Define n m) items) (omega (arith, h.0), omega (arith, h.1))
statements_count bytes net known so_far (Originate p ns ∷ items) ts e =
    let h = statements_count bytes net known so_far items ts e in
    rw (sum_by-cons (amount kind.Statements) (Originate p ns) items, sum_by-cons (amount kind.Patterns) (Originate p ns) items) (omega (arith, h.0), omega (arith, h.1))
statements_count bytes net known so_far (State s ∷ items) ts e =
    let b = bind_ok (statement_of bytes net known s) (λ t. statements_of bytes net known (so_far ++ t ∷ []) items) ts e in
    let h = statements_count bytes net known (so_far ++ b.0 ∷ []) items ts b.2 in
    let size = statement_patterns bytes net known s b.0 b.1 in
    let sums : pattern_sum (so_far ++ b.0 ∷ []) ≡ pattern_sum so_far + length b.0.patterns =
    sum_by-append (λ (t : PlainStatement). length t.patterns) so_far (b.0 ∷ [])
    ∙ ap (λ (n : ℕ). pattern_sum so_far + n) (sum_by-cons (λ (t : PlainStatement). length t.patterns) b.0 [] ∙ omega arith) in
    rw (sum_by-cons (amount kind.Statements) (State s) items, sum_by-cons (amount kind.Patterns) (State s) items) (omega (arith, h.0, length-append so_far (b.0 ∷ [])), omega (arith, h.1, sums, size))

-- a count within its limit
pub within_most : (k : Kind) (most n : ℕ) (x : ⊤) → within k most (capped n) ≡ Ok x → most < 18446744073709551615 → n ≤ most
within_most k most n x e small = omega (arith, leb-true (capped n) most (unless_ok (TooMany k (capped n)) _ x e))

-- What is built of items that keep the rules is a policy.
pub is_policy : (bytes : List ℕ) (net : PlainNet) (known : Names) (items : List Item) (os : List Origin) (ts : List PlainStatement)
    → rules_kept bytes net known items ≡ Ok tt → origins_spelled bytes known items ≡ Ok os → statements_of bytes net known [] items ≡ Ok ts
    → IsPolicy (record { origins = os; statements = ts })
unfolding IsDistinct
is_policy bytes net known items os ts kept originated stated =
    let o = origins_parts bytes known items os originated in
    let l1 =
    bind_ok (within kind.Definitions 256 (counted kind.Definitions items))
    (λ _. within kind.Statements 256 (counted kind.Statements items) >>= λ _. within kind.Patterns 16384
    (counted kind.Patterns items) >>= λ _. within kind.Prefixes 4096 (counted kind.Prefixes items)) tt o.0 in
    let l2 =
    bind_ok (within kind.Statements 256 (counted kind.Statements items))
    (λ _. within kind.Patterns 16384 (counted kind.Patterns items) >>= λ _. within kind.Prefixes 4096 (counted kind.Prefixes items)) tt l1.2 in
    let l3 = bind_ok (within kind.Patterns 16384 (counted kind.Patterns items)) (λ _. within kind.Prefixes 4096 (counted kind.Prefixes items)) tt l2.2 in
    let h = statements_count bytes net known [] items ts stated in
    record {
      statements = omega (arith, h.0, within_most kind.Statements 256 _ l2.0 l2.1 (omega arith));
      patterns = omega (arith, h.1, within_most kind.Patterns 16384 _ l3.0 l3.1 (omega arith));
      prefixes = omega (arith, origins_count bytes known [] items os o.1, within_most kind.Prefixes 4096 _ tt l3.2 (omega arith));
      pairs = within_most kind.Origins 16384 _ tt o.2 (omega arith);
      once = origins_distinct bytes known [] items os o.1 (rules_parts bytes net known items kept).2 tt;
    }
