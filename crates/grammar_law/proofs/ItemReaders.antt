-- What reads an item.
use Rattle.std.proofs.Common.{◌≡◌, ◌⊎◌, inl, inr, List, [], ◌∷◌, ◌++◌, Option, Some, None, Ok, refl, sym, ap, ◌∙◌, subst}
use Rattle.policy_grammar.specs.declared.lexeme.Lexeme.{Lexeme}
use Rattle.policy_grammar.specs.declared.symbol.Symbol.TheVariants as symbol
use Rattle.policy_grammar.specs.Raw.{Arg, Arg as arg, Item, RawPattern}
use Rattle.policy_grammar.specs.Raw.RawPattern.{All, Only, UpTo}
use Rattle.policy_grammar.specs.Reading.{Read, past, first_of, after, either}
use Rattle.policy_grammar.specs.Calls.{set_at}
use Rattle.policy_grammar.specs.Items.{pattern_at, predicate_at, from_at}
use Rattle.net_base.specs.Steps.{◌>>=◌}
use Rattle.grammar_law.specs.Grammar.{Is, Rule, IsList, IsSet, IsPattern, IsPredicate, IsFrom}
use Rattle.grammar_law.proofs.Lookups.{Isnt, is_other}
use Rattle.grammar_law.proofs.Readers.{Before, head, head-append, Exact}
use Rattle.grammar_law.proofs.Tokens.{Token, OneToken, token, Nothing, NoToken, nothing, no_token}
use Rattle.grammar_law.proofs.Sequences.{Then, ThenPlain, then, in_turn}
use Rattle.grammar_law.proofs.Choices.{Choose, ChoosePlain, choose, behind, one_of}
use Rattle.grammar_law.proofs.Lists.{exact_in_words, Listed, listed, list_read, listed_of}
use Rattle.grammar_law.proofs.NameReaders.{Set, set_exact, set_of, closed_words, closed_of}
use Rattle.grammar_law.proofs.Nesting.{brackets}

-- ---- patterns

abbrev Upper : Lexeme → Before RawPattern
Upper f = Choose symbol.Le (λ t. Then (Token symbol.Figure) (λ g. Nothing (UpTo f g))) (Nothing (Only f))

abbrev UpperPlain : Lexeme → Rule RawPattern
UpperPlain f = ChoosePlain symbol.Le (λ t. ThenPlain (OneToken symbol.Figure) (λ g. NoToken (UpTo f g))) (NoToken (Only f))

abbrev upper : Lexeme → List Lexeme → Read RawPattern
upper f = choose symbol.Le (λ t. then (first_of symbol.Figure) (λ g. nothing (UpTo f g))) (nothing (Only f))

abbrev Pattern : Before RawPattern
Pattern = Then (Token symbol.Figure) Upper

pub figure : Exact brackets (Token symbol.Figure) (OneToken symbol.Figure) (λ n. first_of symbol.Figure)
figure = token brackets symbol.Figure (brackets.passes symbol.Figure (refl, refl)) refl

pattern_words : (x : RawPattern) (ls : List Lexeme) → ThenPlain (OneToken symbol.Figure) UpperPlain x ls → IsPattern x ls
pattern_words x ls (f, front, back, e, (one, i), inr p) =
    let whole : ls ≡ f ∷ [] = e ∙ ap (λ z. z ++ back) one ∙ ap (λ z. f ∷ z) p.1 in
    subst (λ z. IsPattern z ls) (sym p.0) (subst (IsPattern (Only f)) (sym whole) (IsPattern.only i))
pattern_words x ls (f, front, back, e, (one, i), inl (l, rest, c, j, p)) =
    let whole : ls ≡ f ∷ l ∷ p.0 ∷ [] = e ∙ ap (λ z. z ++ back) one ∙ ap (λ z. f ∷ z) (c ∙ ap (λ z. l ∷ z) (p.3 ∙ ap (λ z. z ++ p.2) p.4.0 ∙ ap (λ z. p.0 ∷ z) p.5.1)) in
    subst (λ z. IsPattern z ls) (sym p.5.0) (subst (IsPattern (UpTo f p.0)) (sym whole) (IsPattern.up_to i j p.4.1))

pattern_exact : Exact brackets Pattern IsPattern (λ n. pattern_at)
unfolding pattern_at
pattern_exact = exact_in_words brackets Pattern (ThenPlain (OneToken symbol.Figure) UpperPlain) IsPattern (λ n. pattern_at) pattern_words
    (in_turn brackets (Token symbol.Figure) (OneToken symbol.Figure) Upper UpperPlain (λ n. first_of symbol.Figure) (λ f n. upper f) figure
    (λ f. one_of brackets symbol.Le (λ t. Then (Token symbol.Figure) (λ g. Nothing (UpTo f g))) (Nothing (Only f))
    (λ t. ThenPlain (OneToken symbol.Figure) (λ g. NoToken (UpTo f g))) (NoToken (Only f))
    (λ t n. then (first_of symbol.Figure) (λ g. nothing (UpTo f g))) (λ n. nothing (Only f)) (brackets.passes symbol.Le (refl, refl)) refl
    (λ t. in_turn brackets (Token symbol.Figure) (OneToken symbol.Figure) (λ g. Nothing (UpTo f g)) (λ g. NoToken (UpTo f g))
    (λ n. first_of symbol.Figure) (λ g n. nothing (UpTo f g)) figure (λ g. no_token brackets (UpTo f g)))
    (no_token brackets (Only f))))

pattern_of : (x : RawPattern) (ls : List Lexeme) (l : Lexeme) → IsPattern x ls → Isnt symbol.Le l → Pattern x ls l
pattern_of x ls l (IsPattern.only {f = f} i) over = (f, f ∷ [], [], refl, (refl, i), inr ((refl, refl), over))
pattern_of x ls l (IsPattern.up_to {f = f} {l = t} {g = g} i j k) over =
    (f, f ∷ [], t ∷ g ∷ [], refl, (refl, i), inl (t, g ∷ [], refl, j, (g, g ∷ [], [], refl, (refl, k), (refl, refl))))

pattern_head : (l : Lexeme) {x : RawPattern} {ls : List Lexeme} → IsPattern x ls → Is symbol.Figure (head ls l)
pattern_head l (IsPattern.only i) = i
pattern_head l (IsPattern.up_to i j k) = i

abbrev Patterns : Before (List RawPattern)
Patterns = Listed symbol.Or Pattern

abbrev pub Predicate : Before (List RawPattern)
Predicate = Choose symbol.True (λ t. Nothing (All ∷ [])) Patterns

abbrev PredicatePlain : Rule (List RawPattern)
PredicatePlain = ChoosePlain symbol.True (λ t. NoToken (All ∷ [])) (IsList symbol.Or IsPattern)

predicate_words : (xs : List RawPattern) (ls : List Lexeme) → PredicatePlain xs ls → IsPredicate xs ls
predicate_words xs ls (inl p) = subst (λ z. IsPredicate z ls) (sym p.4.0) (subst (IsPredicate (All ∷ [])) (sym (p.2 ∙ ap (λ z. p.0 ∷ z) p.4.1)) (IsPredicate.all p.3))
predicate_words xs ls (inr p) = IsPredicate.patterns p

pub predicate_exact : Exact brackets Predicate IsPredicate (λ n. predicate_at)
unfolding predicate_at
predicate_exact = exact_in_words brackets Predicate PredicatePlain IsPredicate (λ n. predicate_at) predicate_words
    (one_of brackets symbol.True (λ t. Nothing (All ∷ [])) Patterns (λ t. NoToken (All ∷ [])) (IsList symbol.Or IsPattern) (λ t n. nothing (All ∷ [])) (λ n. listed symbol.Or pattern_at)
    (brackets.passes symbol.True (refl, refl)) refl (λ t. no_token brackets (All ∷ []))
    (list_read brackets symbol.Or Pattern IsPattern (λ n. pattern_at) (brackets.passes symbol.Or (refl, refl)) refl pattern_exact))

patterns_head : (l : Lexeme) {xs : List RawPattern} {ls : List Lexeme} → IsList symbol.Or IsPattern xs ls → Is symbol.Figure (head ls l)
patterns_head l (IsList.list {ts = ts} {us = us} p m) = subst (Is symbol.Figure) (sym (head-append ts us l)) (pattern_head (head us l) p)

pub predicate_of : (l : Lexeme) → Is symbol.Arrow l → {xs : List RawPattern} {ls : List Lexeme} → IsPredicate xs ls → Predicate xs ls l
predicate_of l arrow (IsPredicate.all {l = t} i) = inl (t, [], refl, i, (refl, refl))
predicate_of l arrow (IsPredicate.patterns {ps = ps} {ts = ts} is) =
    inr (
      listed_of symbol.Or IsPattern Pattern (Isnt symbol.Le) pattern_of (λ j i. is_other symbol.Or symbol.Le j i refl) l
          (is_other symbol.Arrow symbol.Le l arrow refl) (is_other symbol.Arrow symbol.Or l arrow refl) is,
      is_other symbol.Figure symbol.True (head ts l) (patterns_head l is) refl,
    )

-- a predicate begins with no such word
pub predicate_head : (l : Lexeme) {xs : List RawPattern} {ls : List Lexeme} → IsPredicate xs ls → Is symbol.True (head ls l) ⊎ Is symbol.Figure (head ls l)
predicate_head l (IsPredicate.all i) = inl i
predicate_head l (IsPredicate.patterns is) = inr (patterns_head l is)

-- ---- the end of an item

abbrev pub Ending : Item → Before Item
Ending x = Then (Token symbol.Semicolon) (λ t. Nothing x)

abbrev pub EndingPlain : Item → Rule Item
EndingPlain x = ThenPlain (OneToken symbol.Semicolon) (λ t. NoToken x)

abbrev pub ending : Item → List Lexeme → Read Item
ending x ls = after symbol.Semicolon ls >>= λ rest. Ok (x, rest)

pub ending_exact : (x : Item) → Exact brackets (Ending x) (EndingPlain x) (λ n. ending x)
ending_exact x = behind brackets symbol.Semicolon (Nothing x) (NoToken x) (λ n. nothing x) (brackets.passes symbol.Semicolon (refl, refl)) refl (no_token brackets x)

-- [ "from" .. ] ";"
abbrev pub Sources : (Arg → Item) → Before Item
Sources v = Choose symbol.From (λ t. Then Set (λ x. Ending (v x))) (Ending (v arg.Any))

abbrev pub SourcesPlain : (Arg → Item) → Rule Item
SourcesPlain v = ChoosePlain symbol.From (λ t. ThenPlain IsSet (λ x. EndingPlain (v x))) (EndingPlain (v arg.Any))

abbrev pub sources : (Arg → Item) → List Lexeme → Read Item
sources v = choose symbol.From (λ t. then set_at (λ x. ending (v x))) (ending (v arg.Any))

pub sources_exact : (v : Arg → Item) → Exact brackets (Sources v) (SourcesPlain v) (λ n. sources v)
sources_exact v =
    one_of brackets symbol.From (λ t. Then Set (λ x. Ending (v x))) (Ending (v arg.Any)) (λ t. ThenPlain IsSet (λ x. EndingPlain (v x))) (EndingPlain (v arg.Any))
    (λ t n. then set_at (λ x. ending (v x))) (λ n. ending (v arg.Any)) (brackets.passes symbol.From (refl, refl)) refl
    (λ t. in_turn brackets Set IsSet (λ x. Ending (v x)) (λ x. EndingPlain (v x)) (λ n. set_at) (λ x n. ending (v x)) (set_exact brackets) (λ x. ending_exact (v x)))
    (ending_exact (v arg.Any))

pub sources_words : (v : Arg → Item) (y : Item) (ls : List Lexeme) → SourcesPlain v y ls
    → (x : Arg) × (ts : List Lexeme) × (s : Lexeme) × IsFrom x ts × Is symbol.Semicolon s × (y ≡ v x) × (ls ≡ ts ++ s ∷ [])
sources_words v y ls (inr p) = let c = closed_words symbol.Semicolon (v arg.Any) y ls p in (arg.Any, [], c.0, IsFrom.left_out, c.1, c.2, c.3)
sources_words v y ls (inl (t, back, e, i, p)) =
    let c = closed_words symbol.Semicolon (v p.0) y p.2 p.5 in
    (p.0, t ∷ p.1, c.0, IsFrom.from i p.4, c.1, c.2, e ∙ ap (λ z. t ∷ z) (p.3 ∙ ap (λ z. p.1 ++ z) c.3))

pub sources_of : (v : Arg → Item) (s l : Lexeme) → Is symbol.Semicolon s → {x : Arg} {ts : List Lexeme} → IsFrom x ts → Sources v (v x) (ts ++ s ∷ []) l
sources_of v s l end IsFrom.left_out = inr (closed_of symbol.Semicolon (v arg.Any) s l end, is_other symbol.Semicolon symbol.From s end refl)
sources_of v s l end (IsFrom.from {l = t} {x = x} {ts = ts} i is) =
    inl (t, ts ++ s ∷ [], refl, i, (x, ts, s ∷ [], refl, set_of s (is_other symbol.Semicolon symbol.Comma s end refl) is, closed_of symbol.Semicolon (v x) s l end))

-- what stands behind an expression
pub sources_head : (s l : Lexeme) → Is symbol.Semicolon s → {x : Arg} {ts : List Lexeme} → IsFrom x ts → Is symbol.Semicolon (head (ts ++ s ∷ []) l) ⊎ Is symbol.From (head (ts ++ s ∷ []) l)
sources_head s l end IsFrom.left_out = inl end
sources_head s l end (IsFrom.from i is) = inr i

pub same_sources : (v : Arg → Item) (ls : List Lexeme) → sources v ls ≡ (from_at ls >>= λ x. ending (v x.0) x.1)
unfolding from_at
same_sources v ls = by (past symbol.From ls)
  where
    by : (o : Option (Lexeme × List Lexeme))
        → either o (λ l rest. set_at rest >>= λ x. ending (v x.0) x.1) (ending (v arg.Any) ls) ≡ (either o (λ l rest. set_at rest) (Ok (arg.Any, ls)) >>= λ x. ending (v x.0) x.1)
    by (Some p) = refl
    by None = refl
