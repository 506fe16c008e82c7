-- Items are read from their words.
use Rattle.std.proofs.Common.{◌≡◌, ℕ, ◌≤◌, List, [], ◌∷◌, ◌++◌, Bool, true, false, Ok, refl, sym, ◌∙◌, subst, append_assoc, append-nil}
use Rattle.std.specs.Prelude.{◌==◌, if◌then◌else◌}
use Rattle.std.specs.List.{flat_map, AllByRecursion}
use Rattle.std.specs.Fmt.{decimal}
use Rattle.text_parts.specs.Texts.{prefix_text}
use Rattle.net_base.specs.declared.loc.LocSet.{LocSet}
use Rattle.net_base.specs.Network.{PlainNet}
use Rattle.net_base.specs.Prefixes.{PlainPattern}
use Rattle.policy_grammar.specs.declared.lexeme.Lexeme.{Lexeme}
use Rattle.policy_grammar.specs.declared.symbol.Symbol.TheVariants as symbol
use Rattle.policy_words.specs.declared.word.CallWord.TheVariants as word
use Rattle.policy_grammar.specs.Raw.{Arg, Arg as arg, RawPattern, RawStatement, Item, Step}
use Rattle.policy_grammar.specs.Raw.RawPattern.{All, Only, UpTo}
use Rattle.policy_grammar.specs.Raw.Item.{Originate, State}
use Rattle.policy_grammar.specs.Ranked.{ranked_with, inner_at}
use Rattle.policy_grammar.specs.Reading.{first_of, after}
use Rattle.policy_grammar.specs.Calls.{set_at}
use Rattle.policy_grammar.specs.Items.{pattern_at, patterns_at, predicate_at, from_at, statement_at, originate_at}
use Rattle.policy_rules.specs.Checks.{text}
use Rattle.policy_base.specs.declared.policy.FromSet.{FromSet}
use Rattle.policy_base.specs.declared.policy.FromSet.TheVariants as from_set
use Rattle.policy_base.specs.declared.policy.Origin.{Origin}
use Rattle.policy_base.specs.Policies.{PlainStatement}
use Rattle.policy_text.specs.PolicyText.{names_in, is_everything}
use Rattle.policy_text.specs.Printable.{open_brackets}
use Rattle.policy_text.proofs.Words.{Word, sign, figure, AreWords, name_words, pattern_words, patterns_words, from_words, statement_words, ranking_words}
use Rattle.policy_text.proofs.Readings.{IsPast, Pairs, Reads, ReaderOf, with_joint, Reads-first, either-here, either-not, Reads-list, passes}
use Rattle.policy_text.proofs.ReadSets.{AreNamesOf, Reads-names}
use Rattle.policy_text.proofs.ReadRankings.{AreSteps}
use Rattle.policy_text.proofs.ReadLevels.{IsReadableRanking, BehindRanked, Reads-ranking}

abbrev pub IsRawPattern : List ℕ → RawPattern → PlainPattern → Type 0
IsRawPattern bytes All p = is_everything p ≡ true
IsRawPattern bytes (Only l) p = (text bytes l ≡ prefix_text p.base) × ((p.upto == p.base.len) ≡ true)
IsRawPattern bytes (UpTo l m) p = (text bytes l ≡ prefix_text p.base) × (text bytes m ≡ decimal p.upto)

abbrev pub IsRawFrom : List ℕ → PlainNet → Arg → FromSet → Type 0
IsRawFrom bytes net a from_set.Any = a ≡ arg.Any
IsRawFrom bytes net a (from_set.Named s) = (ls : List Lexeme) × (a ≡ arg.Names ls) × AreNamesOf bytes ls (names_in net s)

pub record IsRawStatement (bytes : List ℕ) (net : PlainNet) (raw : RawStatement) (s : PlainStatement) : Type 0 where
  pub patterns : Pairs (IsRawPattern bytes) raw.patterns s.patterns
  pub ranked : AreSteps bytes net s.ranked raw.ranked
  pub from : IsRawFrom bytes net raw.from s.from

abbrev pub IsStatementItem : List ℕ → PlainNet → Item → PlainStatement → Type 0
IsStatementItem bytes net item s = (raw : RawStatement) × (item ≡ State raw) × IsRawStatement bytes net raw s

abbrev pub IsOriginItem : List ℕ → PlainNet → Item → Origin → Type 0
IsOriginItem bytes net item o = (l : Lexeme) × (ls : List Lexeme) × (item ≡ Originate l ls) × (text bytes l ≡ prefix_text o.prefix) × AreNamesOf bytes ls (names_in net o.at)

-- the set has a name
abbrev pub IsNamed : PlainNet → LocSet → Type 0
IsNamed net s = (n : List ℕ) × (ns : List (List ℕ)) × (names_in net s ≡ n ∷ ns)

statement_parts : (ls behind body sources end rest : List Lexeme) (ps : List RawPattern) (ss : List Step) (f : Arg)
    → predicate_at ls ≡ Ok (ps, behind) → after symbol.Arrow behind ≡ Ok body → ranked_with (inner_at 64) [] body ≡ Ok (ss, sources)
    → from_at sources ≡ Ok (f, end) → after symbol.Semicolon end ≡ Ok rest → statement_at ls ≡ Ok (State (record { patterns = ps; ranked = ss; from = f }), rest)
unfolding statement_at
statement_parts ls behind body sources end rest ps ss f a b c d e = rw (a, b, c, d, e) refl

module _ (bytes : List ℕ) (net : PlainNet) where
  by_upto : (p : PlainPattern) (b : Bool) → (p.upto == p.base.len) ≡ b → (ls : List Lexeme) (ws : List Word)
      → AreWords bytes ls ((if b then figure (prefix_text p.base) ∷ [] else figure (prefix_text p.base) ∷ sign symbol.Le ∷ figure (decimal p.upto) ∷ []) ++ ws) → IsPast symbol.Le ws
      → Reads bytes (pattern_at ls) (λ a. IsRawPattern bytes a p) ws
  unfolding pattern_at
  by_upto p true same ls ws are other =
      let x = Reads-first bytes symbol.Figure ls (figure (prefix_text p.base)) ws are refl in
      record { out = Only x.out; rest = x.rest; is = rw x.is (either-not bytes symbol.Le x.rest ws _ _ x.left other); right = (x.right.1, same); left = x.left }
  by_upto p false same ls ws are other =
      let x = Reads-first bytes symbol.Figure ls (figure (prefix_text p.base)) (sign symbol.Le ∷ figure (decimal p.upto) ∷ ws) are refl in
      upto p x.out x.rest x.right.1 ls ws x.is x.left where
        upto : (p : PlainPattern) (l : Lexeme) (rest : List Lexeme) → text bytes l ≡ prefix_text p.base → (ls : List Lexeme) (ws : List Word)
            → first_of symbol.Figure ls ≡ Ok (l, rest) → AreWords bytes rest (sign symbol.Le ∷ figure (decimal p.upto) ∷ ws)
            → Reads bytes (pattern_at ls) (λ a. IsRawPattern bytes a p) ws
        upto p l [] base ls ws first are = absurd are
        upto p l (m ∷ rest) base ls ws first are =
            let y = Reads-first bytes symbol.Figure rest (figure (decimal p.upto)) ws are.1 refl in
            record { out = UpTo l y.out; rest = y.rest; is = rw first (either-here bytes symbol.Le m rest (sign symbol.Le) _ _ are.0 refl ∙ rw y.is refl); right = (base, y.right.1); left = y.left }

  reads_pattern : (p : PlainPattern) → ReaderOf bytes pattern_at pattern_words (IsRawPattern bytes) (λ ws. IsPast symbol.Le ws) p
  reads_pattern p ls ws are other = by_upto p (p.upto == p.base.len) refl ls ws are other

  reads_each : (ps : List PlainPattern) → AllByRecursion (ReaderOf bytes pattern_at pattern_words (IsRawPattern bytes) (λ ws. IsPast symbol.Le ws)) ps
  reads_each [] = tt
  reads_each (p ∷ ps) = (reads_pattern p, reads_each ps)

  reads_patterns : (p : PlainPattern) (ps : List PlainPattern) (ls : List Lexeme) (ws : List Word)
      → AreWords bytes ls (pattern_words p ++ flat_map (with_joint symbol.Or pattern_words) ps ++ ws) → IsPast symbol.Le ws → IsPast symbol.Or ws
      → Reads bytes (patterns_at ls) (λ xs. Pairs (IsRawPattern bytes) xs (p ∷ ps)) ws
  reads_patterns p ps ls ws are le or =
      Reads-list bytes symbol.Or pattern_at pattern_words (IsRawPattern bytes) (λ v. IsPast symbol.Le v) (λ v. refl) p ps (reads_pattern p)
      (reads_each ps) ls ws are le or

  figure_first : (p : PlainPattern) (b : Bool) (ws : List Word)
      → IsPast symbol.True ((if b then figure (prefix_text p.base) ∷ [] else figure (prefix_text p.base) ∷ sign symbol.Le ∷ figure (decimal p.upto) ∷ []) ++ ws)
  figure_first p true ws = refl
  figure_first p false ws = refl

  several : (p : PlainPattern) (ps : List PlainPattern) (ls : List Lexeme) (ws : List Word)
      → AreWords bytes ls (pattern_words p ++ flat_map (with_joint symbol.Or pattern_words) ps ++ ws) → IsPast symbol.Le ws → IsPast symbol.Or ws
      → Reads bytes (predicate_at ls) (λ xs. Pairs (IsRawPattern bytes) xs (p ∷ ps)) ws
  unfolding predicate_at
  several p ps ls ws are le or =
      let x = reads_patterns p ps ls ws are le or in
      let front : IsPast symbol.True (pattern_words p ++ flat_map (with_joint symbol.Or pattern_words) ps ++ ws) =
      subst (λ (v : List Word). IsPast symbol.True v) (sym (append_assoc (pattern_words p) (flat_map (with_joint symbol.Or pattern_words) ps) ws))
      (figure_first p (p.upto == p.base.len) (flat_map (with_joint symbol.Or pattern_words) ps ++ ws)) in
      record {
        out = x.out;
        rest = x.rest;
        is = either-not bytes symbol.True ls (pattern_words p ++ flat_map (with_joint symbol.Or pattern_words) ps ++ ws) _ _ are front
            ∙ x.is;
        right = x.right;
        left = x.left;
      }

  everything : (p : PlainPattern) (ls : List Lexeme) (ws : List Word) → is_everything p ≡ true → AreWords bytes ls (sign symbol.True ∷ ws)
      → Reads bytes (predicate_at ls) (λ xs. Pairs (IsRawPattern bytes) xs (p ∷ [])) ws
  unfolding predicate_at
  everything p [] ws all are = absurd are
  everything p (l ∷ ls) ws all are = record { out = All ∷ []; rest = ls; is = either-here bytes symbol.True l ls (sign symbol.True) _ _ are.0 refl; right = (all, tt); left = are.1 }

  by_everything : (b : Bool) (p : PlainPattern) (ls : List Lexeme) (ws : List Word) → is_everything p ≡ b
      → AreWords bytes ls ((if b then sign symbol.True ∷ [] else pattern_words p) ++ ws) → IsPast symbol.Le ws → IsPast symbol.Or ws
      → Reads bytes (predicate_at ls) (λ xs. Pairs (IsRawPattern bytes) xs (p ∷ [])) ws
  by_everything true p ls ws all are le or = everything p ls ws all are
  by_everything false p ls ws all are le or = several p [] ls ws (subst (λ (v : List Word). AreWords bytes ls (v ++ ws)) (sym (append-nil (pattern_words p))) are) le or

  Reads-predicate : (ps : List PlainPattern) → (ps ≡ [] → ⊥) → (ls : List Lexeme) (ws : List Word) → AreWords bytes ls (patterns_words ps ++ ws) → IsPast symbol.Le ws → IsPast symbol.Or ws
      → Reads bytes (predicate_at ls) (λ xs. Pairs (IsRawPattern bytes) xs ps) ws
  Reads-predicate [] some ls ws are le or = absurd (some refl)
  Reads-predicate (p ∷ []) some ls ws are le or = by_everything (is_everything p) p ls ws refl are le or
  Reads-predicate (p ∷ q ∷ ps) some ls ws are le or = several p (q ∷ ps) ls ws are le or

  named_from : (s : LocSet) → IsNamed net s → (ls : List Lexeme) (ws : List Word) → AreWords bytes ls (name_words (names_in net s) ++ ws)
      → IsPast symbol.Comma ws → Reads bytes (set_at ls) (λ a. IsRawFrom bytes net a (from_set.Named s)) ws
  unfolding set_at
  named_from s has ls ws are other =
      let here : AreWords bytes ls (name_words (has.0 ∷ has.1) ++ ws) = subst (λ (ns : List (List ℕ)). AreWords bytes ls (name_words ns ++ ws)) has.2 are in
      let x = Reads-names bytes net has.0 has.1 ls ws here other in
      record {
        out = arg.Names x.out;
        rest = x.rest;
        is = either-not bytes (symbol.Call word.Any) ls (name_words (has.0 ∷ has.1) ++ ws) _ _ here refl ∙ rw x.is refl;
        right = (x.out, refl, subst (λ (ns : List (List ℕ)). AreNamesOf bytes x.out ns) (sym has.2) x.right);
        left = x.left;
      }

  -- the sources are named by somebody
  abbrev pub HasSources : FromSet → Type 0
  HasSources from_set.Any = Unit {0}
  HasSources (from_set.Named s) = IsNamed net s

  Reads-from : (f : FromSet) → HasSources f → (ls : List Lexeme) (ws : List Word) → AreWords bytes ls (from_words net f ++ ws) → IsPast symbol.From ws
      → IsPast symbol.Comma ws → Reads bytes (from_at ls) (λ a. IsRawFrom bytes net a f) ws
  unfolding from_at
  Reads-from from_set.Any has ls ws are other comma = record { out = arg.Any; rest = ls; is = either-not bytes symbol.From ls ws _ _ are other; right = refl; left = are }
  Reads-from (from_set.Named s) has [] ws are other comma = absurd are
  Reads-from (from_set.Named s) has (l ∷ ls) ws are other comma =
      let x = named_from s has ls ws are.1 comma in
      record { out = x.out; rest = x.rest; is = either-here bytes symbol.From l ls (sign symbol.From) _ _ are.0 refl ∙ x.is; right = x.right; left = x.left }

  behind_ranking : (f : FromSet) (ws : List Word) → BehindRanked (from_words net f ++ (sign symbol.Semicolon ∷ ws))
  behind_ranking from_set.Any ws = (((tt, refl), refl), refl)
  behind_ranking (from_set.Named s) ws = (((tt, refl), refl), refl)

  -- what a statement has to be read
  pub record IsReadableStatement (s : PlainStatement) : Type 0 where
    pub patterns : s.patterns ≡ [] → ⊥
    pub ranked : IsReadableRanking bytes net s.ranked
    pub brackets : open_brackets 1 s.ranked ≤ 64
    pub from : HasSources s.from

  pub Reads-statement : (s : PlainStatement) → IsReadableStatement s → (ls : List Lexeme) (ws : List Word)
      → AreWords bytes ls (statement_words net s ++ ws) → Reads bytes (statement_at ls) (λ item. IsStatementItem bytes net item s) ws
  Reads-statement s fine ls ws are =
      let p : List Word = patterns_words s.patterns in
      let r : List Word = ranking_words net 1 s.ranked in
      let f : List Word = from_words net s.from in
      let semi : List Word = sign symbol.Semicolon ∷ ws in
      let order : p ++ sign symbol.Arrow ∷ [] ++ r ++ f ++ sign symbol.Semicolon ∷ [] ++ ws ≡ p ++ (sign symbol.Arrow ∷ (r ++ (f ++ semi))) = simp append_assoc refl in
      let patterns = Reads-predicate s.patterns fine.patterns ls (sign symbol.Arrow ∷ (r ++ (f ++ semi))) (subst (λ (v : List Word). AreWords bytes ls v) order are) refl refl in
      let arrow = passes bytes symbol.Arrow patterns.rest (sign symbol.Arrow) (r ++ (f ++ semi)) patterns.left refl in
      let ranked = Reads-ranking bytes net s.ranked fine.ranked fine.brackets arrow.rest (f ++ semi) arrow.left (behind_ranking s.from ws) in
      let from = Reads-from s.from fine.from ranked.rest semi ranked.left refl refl in
      let rest = passes bytes symbol.Semicolon from.rest (sign symbol.Semicolon) ws from.left refl in
      let raw : RawStatement = record { patterns = patterns.out; ranked = ranked.out; from = from.out } in
      record {
        out = State raw;
        rest = rest.rest;
        is = statement_parts ls patterns.rest arrow.rest ranked.rest from.rest rest.rest patterns.out ranked.out from.out patterns.is arrow.is ranked.is from.is rest.is;
        right = (raw, refl, record { patterns = patterns.right; ranked = rw ranked.right.1 ranked.right.2; from = from.right });
        left = rest.left;
      }

  pub Reads-originate : (o : Origin) → IsNamed net o.at → (ls : List Lexeme) (ws : List Word)
      → AreWords bytes ls (figure (prefix_text o.prefix) ∷ sign symbol.At ∷ (name_words (names_in net o.at) ++ sign symbol.Semicolon ∷ []) ++ ws)
      → Reads bytes (originate_at ls) (λ item. IsOriginItem bytes net item o) ws
  unfolding originate_at
  Reads-originate o has ls ws are =
      let ns : List (List ℕ) = has.0 ∷ has.1 in
      let semi : List Word = sign symbol.Semicolon ∷ ws in
      let prefix = Reads-first bytes symbol.Figure ls (figure (prefix_text o.prefix)) (sign symbol.At ∷ (name_words (names_in net o.at) ++ sign symbol.Semicolon ∷ []) ++ ws) are refl in
      let at = passes bytes symbol.At prefix.rest (sign symbol.At) (name_words (names_in net o.at) ++ sign symbol.Semicolon ∷ [] ++ ws) prefix.left refl in
      let here : AreWords bytes at.rest (name_words ns ++ semi) =
      subst (λ (v : List Word). AreWords bytes at.rest v) (append_assoc (name_words ns) (sign symbol.Semicolon ∷ []) ws)
      (subst (λ (m : List (List ℕ)). AreWords bytes at.rest (name_words m ++ sign symbol.Semicolon ∷ [] ++ ws)) has.2 at.left) in
      let names = Reads-names bytes net has.0 has.1 at.rest semi here refl in
      let rest = passes bytes symbol.Semicolon names.rest (sign symbol.Semicolon) ws names.left refl in
      record {
        out = Originate prefix.out names.out;
        rest = rest.rest;
        is = rw (prefix.is, at.is, names.is, rest.is) refl;
        right = (prefix.out, names.out, refl, prefix.right.1, subst (λ (m : List (List ℕ)). AreNamesOf bytes names.out m) (sym has.2) names.right);
        left = rest.left;
      }
