-- What reads an item, by its first word.
use Rattle.std.proofs.Common.{◌≡◌, ℕ, ◌⊎◌, inl, inr, List, [], ◌∷◌, ◌++◌, refl, sym, ap, ◌∙◌, subst, append_assoc}
use Rattle.std.proofs.Math.Path.{fun_ext}
use Rattle.policy_grammar.specs.declared.lexeme.Lexeme.{Lexeme}
use Rattle.policy_grammar.specs.declared.symbol.Symbol.{Symbol}
use Rattle.policy_grammar.specs.declared.symbol.Symbol.TheVariants as symbol
use Rattle.policy_grammar.specs.Raw.{Arg, Item, RawPattern, Step}
use Rattle.policy_grammar.specs.Raw.Item.{Define, Originate, State}
use Rattle.policy_grammar.specs.Reading.{Read, first_of, after}
use Rattle.policy_grammar.specs.Names.{names_at, braced_at}
use Rattle.policy_grammar.specs.Ranked.{ranked_with, inner_at}
use Rattle.policy_grammar.specs.Items.{predicate_at, statement_at, define_at, originate_at, item_at}
use Rattle.net_base.specs.Steps.{◌>>=◌}
use Rattle.grammar_law.specs.Grammar.{Is, Rule, IsName, IsNames, IsGroup, IsPredicate, IsRanked, IsItem}
use Rattle.grammar_law.proofs.Lookups.{Differ, Isnt, is_other}
use Rattle.grammar_law.proofs.Readers.{Before, head, head-append, four_parts, Exact}
use Rattle.grammar_law.proofs.Tokens.{Token, OneToken}
use Rattle.grammar_law.proofs.Sequences.{Then, ThenPlain, then, in_turn}
use Rattle.grammar_law.proofs.Choices.{Choose, ChoosePlain, choose, behind, one_of}
use Rattle.grammar_law.proofs.Lists.{exact_in_words}
use Rattle.grammar_law.proofs.NameReaders.{named, Names, names_exact, names_of, Group, group_exact, group_of, behind_words, closed_words, behind_of, closed_of}
use Rattle.grammar_law.proofs.Atoms.{Onto}
use Rattle.grammar_law.proofs.Expressions.{RankedBefore, ranked_exact, ranked_stands, EndsRanked}
use Rattle.grammar_law.proofs.ItemReaders.{Predicate, predicate_exact, predicate_of, predicate_head, figure, Ending, EndingPlain, ending, ending_exact, Sources}
use Rattle.grammar_law.proofs.ItemReaders.{SourcesPlain, sources, sources_exact, sources_words, sources_of, sources_head, same_sources}
use Rattle.grammar_law.proofs.Nesting.{brackets}

-- ---- a group

abbrev Definition : Before Item
Definition = Then (Token symbol.Name) (λ n. Then (Token symbol.Equals) (λ t. Then Group (λ ns. Ending (Define n ns))))

abbrev DefinitionPlain : Rule Item
DefinitionPlain = ThenPlain IsName (λ n. ThenPlain (OneToken symbol.Equals) (λ t. ThenPlain IsGroup (λ ns. EndingPlain (Define n ns))))

define_exact : Exact brackets Definition DefinitionPlain (λ m. define_at)
unfolding define_at
define_exact =
    in_turn brackets (Token symbol.Name) IsName (λ n. Then (Token symbol.Equals) (λ t. Then Group (λ ns. Ending (Define n ns))))
    (λ n. ThenPlain (OneToken symbol.Equals) (λ t. ThenPlain IsGroup (λ ns. EndingPlain (Define n ns))))
    (λ m. first_of symbol.Name) (λ n m ls. after symbol.Equals ls >>= then braced_at (λ ns. ending (Define n ns))) (named brackets)
    (λ n. behind brackets symbol.Equals (Then Group (λ ns. Ending (Define n ns))) (ThenPlain IsGroup (λ ns. EndingPlain (Define n ns)))
    (λ m. then braced_at (λ ns. ending (Define n ns))) (brackets.passes symbol.Equals (refl, refl)) refl
    (in_turn brackets Group IsGroup (λ ns. Ending (Define n ns)) (λ ns. EndingPlain (Define n ns)) (λ m. braced_at) (λ ns m. ending (Define n ns))
    (group_exact brackets) (λ ns. ending_exact (Define n ns))))

define_words : (x : Item) (ls : List Lexeme) → DefinitionPlain x ls → (d : Lexeme) → Is symbol.Define d → IsItem x (d ∷ ls)
define_words x ls p d i =
    let e = behind_words symbol.Equals (ThenPlain IsGroup (λ ns. EndingPlain (Define p.0 ns))) x p.2 p.5 in
    let g = e.3 in
    let s = closed_words symbol.Semicolon (Define p.0 g.0) x g.2 g.5 in
    let whole : ls ≡ p.1 ++ e.0 ∷ g.1 ++ s.0 ∷ [] =
    p.3 ∙ ap (λ z. p.1 ++ z) (e.4 ∙ ap (λ z. e.0 ∷ z) (g.3 ∙ ap (λ z. g.1 ++ z) s.3)) ∙ sym (append_assoc p.1 (e.0 ∷ g.1) (s.0 ∷ [])) in
    subst (λ z. IsItem z (d ∷ ls)) (sym s.2) (subst (λ z. IsItem (Define p.0 g.0) (d ∷ z)) (sym whole) (IsItem.define i p.4 e.2 g.4 s.1))

-- ---- a prefix with its origins

abbrev Origin : Before Item
Origin = Then (Token symbol.Figure) (λ f. Then (Token symbol.At) (λ t. Then Names (λ ns. Ending (Originate f ns))))

abbrev OriginPlain : Rule Item
OriginPlain = ThenPlain (OneToken symbol.Figure) (λ f. ThenPlain (OneToken symbol.At) (λ t. ThenPlain IsNames (λ ns. EndingPlain (Originate f ns))))

originate_exact : Exact brackets Origin OriginPlain (λ m. originate_at)
unfolding originate_at
originate_exact =
    in_turn brackets (Token symbol.Figure) (OneToken symbol.Figure) (λ f. Then (Token symbol.At) (λ t. Then Names (λ ns. Ending (Originate f ns))))
    (λ f. ThenPlain (OneToken symbol.At) (λ t. ThenPlain IsNames (λ ns. EndingPlain (Originate f ns))))
    (λ m. first_of symbol.Figure) (λ f m ls. after symbol.At ls >>= then names_at (λ ns. ending (Originate f ns))) figure
    (λ f. behind brackets symbol.At (Then Names (λ ns. Ending (Originate f ns))) (ThenPlain IsNames (λ ns. EndingPlain (Originate f ns)))
    (λ m. then names_at (λ ns. ending (Originate f ns))) (brackets.passes symbol.At (refl, refl)) refl
    (in_turn brackets Names IsNames (λ ns. Ending (Originate f ns)) (λ ns. EndingPlain (Originate f ns)) (λ m. names_at)
    (λ ns m. ending (Originate f ns)) (names_exact brackets) (λ ns. ending_exact (Originate f ns))))

originate_words : (x : Item) (ls : List Lexeme) → OriginPlain x ls → (o : Lexeme) → Is symbol.Originate o → IsItem x (o ∷ ls)
originate_words x ls p o i =
    let t = behind_words symbol.At (ThenPlain IsNames (λ ns. EndingPlain (Originate p.0 ns))) x p.2 p.5 in
    let ns = t.3 in
    let s = closed_words symbol.Semicolon (Originate p.0 ns.0) x ns.2 ns.5 in
    let whole : ls ≡ p.0 ∷ t.0 ∷ ns.1 ++ s.0 ∷ [] =
    p.3 ∙ ap (λ z. z ++ p.2) p.4.0 ∙ ap (λ z. p.0 ∷ z) (t.4 ∙ ap (λ z. t.0 ∷ z) (ns.3 ∙ ap (λ z. ns.1 ++ z) s.3)) in
    subst (λ z. IsItem z (o ∷ ls)) (sym s.2) (subst (λ z. IsItem (Originate p.0 ns.0) (o ∷ z)) (sym whole) (IsItem.originate i p.4.1 t.2 ns.4 s.1))

-- ---- a statement

abbrev stated : List RawPattern → List Step → Arg → Item
stated ps xs x = State (record { patterns = ps; ranked = xs; from = x })

abbrev Statement : Before Item
Statement = Then Predicate (λ ps. Then (Token symbol.Arrow) (λ t. Then (RankedBefore []) (λ xs. Sources (stated ps xs))))

abbrev StatementPlain : Rule Item
StatementPlain = ThenPlain IsPredicate (λ ps. ThenPlain (OneToken symbol.Arrow) (λ t. ThenPlain (Onto [] IsRanked) (λ xs. SourcesPlain (stated ps xs))))

-- with room for so many brackets
abbrev statement : ℕ → List Lexeme → Read Item
statement m = then predicate_at (λ ps ls. after symbol.Arrow ls >>= then (ranked_with (inner_at m) []) (λ xs. sources (stated ps xs)))

statement_exact : Exact brackets Statement StatementPlain statement
statement_exact =
    in_turn brackets Predicate IsPredicate (λ ps. Then (Token symbol.Arrow) (λ t. Then (RankedBefore []) (λ xs. Sources (stated ps xs))))
    (λ ps. ThenPlain (OneToken symbol.Arrow) (λ t. ThenPlain (Onto [] IsRanked) (λ xs. SourcesPlain (stated ps xs))))
    (λ m. predicate_at) (λ ps m ls. after symbol.Arrow ls >>= then (ranked_with (inner_at m) []) (λ xs. sources (stated ps xs))) predicate_exact
    (λ ps. behind brackets symbol.Arrow (Then (RankedBefore []) (λ xs. Sources (stated ps xs))) (ThenPlain (Onto [] IsRanked) (λ xs. SourcesPlain (stated ps xs)))
    (λ m. then (ranked_with (inner_at m) []) (λ xs. sources (stated ps xs))) (brackets.passes symbol.Arrow (refl, refl)) refl
    (in_turn brackets (RankedBefore []) (Onto [] IsRanked) (λ xs. Sources (stated ps xs)) (λ xs. SourcesPlain (stated ps xs))
    (λ m. ranked_with (inner_at m) []) (λ xs m. sources (stated ps xs)) (ranked_exact []) (λ xs. sources_exact (stated ps xs))))

statement_words : (x : Item) (ls : List Lexeme) → StatementPlain x ls → IsItem x ls
statement_words x ls p =
    let a = behind_words symbol.Arrow (ThenPlain (Onto [] IsRanked) (λ xs. SourcesPlain (stated p.0 xs))) x p.2 p.5 in
    let r = a.3 in
    let s = sources_words (stated p.0 r.0) x r.2 r.5 in
    let whole : ls ≡ p.1 ++ a.0 ∷ r.1 ++ s.1 ++ s.2 ∷ [] =
    p.3 ∙ ap (λ z. p.1 ++ z) (a.4 ∙ ap (λ z. a.0 ∷ z) (r.3 ∙ ap (λ z. r.1 ++ z) s.6)) ∙ sym (four_parts p.1 (a.0 ∷ r.1) s.1 (s.2 ∷ [])) in
    subst (λ z. IsItem z ls) (sym (s.5 ∙ ap (λ z. stated p.0 z s.0) r.4.1)) (subst (IsItem (stated p.0 r.4.0 s.0)) (sym whole) (IsItem.state p.4 a.2 r.4.2 s.3 s.4))

same_statement : (ls : List Lexeme) → statement 64 ls ≡ statement_at ls
unfolding statement_at
same_statement ls =
    ap (λ (k : List RawPattern × List Lexeme → Read Item). predicate_at ls >>= k)
    (fun_ext (λ ps. ap (λ (k : List Step × List Lexeme → Read Item). after symbol.Arrow ps.1 >>= λ behind. ranked_with (inner_at 64) [] behind >>= k)
    (fun_ext (λ xs. same_sources (stated ps.0 xs.0) xs.1))))

-- ---- an item

abbrev pub ItemBefore : Before Item
ItemBefore = Choose symbol.Define (λ t. Definition) (Choose symbol.Originate (λ t. Origin) Statement)

abbrev ItemPlain : Rule Item
ItemPlain = ChoosePlain symbol.Define (λ t. DefinitionPlain) (ChoosePlain symbol.Originate (λ t. OriginPlain) StatementPlain)

-- with room for so many brackets
abbrev pub item : ℕ → List Lexeme → Read Item
item m = choose symbol.Define (λ t. define_at) (choose symbol.Originate (λ t. originate_at) (statement m))

item_words : (x : Item) (ls : List Lexeme) → ItemPlain x ls → IsItem x ls
item_words x ls (inl (d, back, e, i, p)) = subst (IsItem x) (sym e) (define_words x back p d i)
item_words x ls (inr (inl (o, back, e, i, p))) = subst (IsItem x) (sym e) (originate_words x back p o i)
item_words x ls (inr (inr p)) = statement_words x ls p

pub item_exact : Exact brackets ItemBefore IsItem item
item_exact = exact_in_words brackets ItemBefore ItemPlain IsItem item item_words
    (one_of brackets symbol.Define (λ t. Definition) (Choose symbol.Originate (λ t. Origin) Statement) (λ t. DefinitionPlain) (ChoosePlain symbol.Originate (λ t. OriginPlain) StatementPlain)
    (λ t m. define_at) (λ m. choose symbol.Originate (λ t. originate_at) (statement m)) (brackets.passes symbol.Define (refl, refl)) refl (λ t. define_exact)
    (one_of brackets symbol.Originate (λ t. Origin) Statement (λ t. OriginPlain) StatementPlain (λ t m. originate_at) statement
    (brackets.passes symbol.Originate (refl, refl)) refl (λ t. originate_exact) statement_exact))

pub same_item : (ls : List Lexeme) → item 64 ls ≡ item_at ls
unfolding item_at
same_item ls = ap (λ z. choose symbol.Define (λ t. define_at) (λ ls. choose symbol.Originate (λ t. originate_at) (λ ls. z) ls) ls) (same_statement ls)

-- ---- what is written is there to be read

abbrev ends : (s : Symbol) (l : Lexeme) → Is s l → Differ s symbol.And → Differ s symbol.Or → Differ s symbol.Above → EndsRanked l
ends s l i a o r = ((is_other s symbol.And l i a, is_other s symbol.Or l i o), is_other s symbol.Above l i r)

ends_from : (l : Lexeme) → Is symbol.Semicolon l ⊎ Is symbol.From l → EndsRanked l
ends_from l (inl i) = ends symbol.Semicolon l i refl refl refl
ends_from l (inr i) = ends symbol.From l i refl refl refl

unlike : (s : Symbol) (l : Lexeme) → Differ symbol.True s → Differ symbol.Figure s → Is symbol.True l ⊎ Is symbol.Figure l → Isnt s l
unlike s l t f (inl i) = is_other symbol.True s l i t
unlike s l t f (inr i) = is_other symbol.Figure s l i f

pub item_of : (l : Lexeme) {x : Item} {ls : List Lexeme} → IsItem x ls → ItemBefore x ls l
item_of l (IsItem.define {d = d} {n = n} {e = e} {s = s} {names = ns} {us = us} i (IsName.name j) k g m) =
    inl (
      d,
      n ∷ e ∷ us ++ s ∷ [],
      refl,
      i,
      (
        n,
        n ∷ [],
        e ∷ us ++ s ∷ [],
        refl,
        (refl, j),
        behind_of symbol.Equals (Then Group (λ ns. Ending (Define n ns))) (Define n ns) e (us ++ s ∷ []) l k (ns, us, s ∷ [], refl, group_of s g, closed_of symbol.Semicolon (Define n ns) s l m),
      ),
    )
item_of l (IsItem.originate {o = o} {f = f} {t = t} {s = s} {names = ns} {ts = ts} i j k g m) =
    inr (
      inl (
        o,
        f ∷ t ∷ ts ++ s ∷ [],
        refl,
        i,
        (
          f,
          f ∷ [],
          t ∷ ts ++ s ∷ [],
          refl,
          (refl, j),
          behind_of symbol.At (Then Names (λ ns. Ending (Originate f ns))) (Originate f ns) t (ts ++ s ∷ []) l k
              (ns, ts, s ∷ [], refl, names_of s (is_other symbol.Semicolon symbol.Comma s m refl) g, closed_of symbol.Semicolon (Originate f ns) s l m),
        ),
      ),
      is_other symbol.Originate symbol.Define o i refl,
    )
item_of l (IsItem.state {ps = ps} {xs = xs} {x = x} {a = a} {s = s} {ts = ts} {us = us} {vs = vs} p i r f m) =
    let rest = a ∷ us ++ (vs ++ s ∷ []) in
    let first : head (ts ++ a ∷ us ++ vs ++ s ∷ []) l ≡ head ts a = ap (λ z. head z l) (four_parts ts (a ∷ us) vs (s ∷ [])) ∙ head-append ts rest l in
    let begins = predicate_head a p in
    let next = ends_from (head (vs ++ s ∷ []) l) (sources_head s l m f) in
    let read : Statement (stated ps xs x) (ts ++ a ∷ us ++ vs ++ s ∷ []) l = (
      ps,
      ts,
      rest,
      four_parts ts (a ∷ us) vs (s ∷ []),
      predicate_of a i p,
      behind_of symbol.Arrow (Then (RankedBefore []) (λ xs. Sources (stated ps xs))) (stated ps xs x) a (us ++ (vs ++ s ∷ [])) l i
          (xs, us, vs ++ s ∷ [], refl, ranked_stands [] (head (vs ++ s ∷ []) l) next r, sources_of (stated ps xs) s l m f),
    ) in
    inr (
      inr (read, subst (Isnt symbol.Originate) (sym first) (unlike symbol.Originate (head ts a) refl refl begins)),
      subst (Isnt symbol.Define)
          (sym first) (unlike symbol.Define (head ts a) refl refl begins),
    )

-- an item has a first token, and that isn't the end of the text
pub item_begins : {x : Item} {ls : List Lexeme} → IsItem x ls → (t : Lexeme) × (rest : List Lexeme) × (ls ≡ t ∷ rest) × Isnt symbol.EndOfText t
item_begins (IsItem.define {d = d} {e = e} {s = s} {ts = ts} {us = us} i n k g m) = (d, ts ++ e ∷ us ++ s ∷ [], refl, is_other symbol.Define symbol.EndOfText d i refl)
item_begins (IsItem.originate {o = o} {f = f} {t = t} {s = s} {ts = ts} i j k g m) = (o, f ∷ t ∷ ts ++ s ∷ [], refl, is_other symbol.Originate symbol.EndOfText o i refl)
item_begins (IsItem.state {a = a} {s = s} {ts = ts} {us = us} {vs = vs} p i r f m) = by ts (predicate_head a p)
  where
    by : (ts : List Lexeme) → Is symbol.True (head ts a) ⊎ Is symbol.Figure (head ts a) → (t : Lexeme) × (rest : List Lexeme) × (ts ++ a ∷ us ++ vs ++ s ∷ [] ≡ t ∷ rest) × Isnt symbol.EndOfText t
    by [] begins = (a, us ++ vs ++ s ∷ [], refl, unlike symbol.EndOfText a refl refl begins)
    by (t ∷ ts) begins = (t, ts ++ a ∷ us ++ vs ++ s ∷ [], refl, unlike symbol.EndOfText t refl refl begins)
