-- No more brackets are open in a printed text than it opens.
use Rattle.std.proofs.Common.{◌≡◌, ℕ, ◌+◌, ◌-◌, ◌<◌, ◌≤◌, max, List, [], ◌∷◌, ◌++◌, Bool, true, false, None, refl, sym, ◌∙◌, subst, arith, append_assoc, append-nil}
use Rattle.std.specs.Prelude.{◌==◌, nat_lt, if◌then◌else◌}
use Rattle.std.specs.List.{flat_map, AllByRecursion}
use Rattle.std.specs.Fmt.{decimal}
use Rattle.std.proofs.lemmas.Bool.{lt-leb}
use Rattle.text_parts.specs.Texts.{prefix_text}
use Rattle.net_base.specs.declared.loc.LocSet.{LocSet}
use Rattle.net_base.specs.Network.{PlainNet}
use Rattle.net_base.specs.Prefixes.{PlainPattern}
use Rattle.policy_grammar.specs.declared.lexeme.Lexeme.{Lexeme}
use Rattle.policy_grammar.specs.declared.symbol.Symbol.{Symbol}
use Rattle.policy_grammar.specs.declared.symbol.Symbol.TheVariants as symbol
use Rattle.policy_words.specs.declared.word.CallWord.TheVariants as word
use Rattle.policy_grammar.specs.Deep.{open_behind, is_too_deep, first_deep}
use Rattle.policy_base.specs.declared.call.Call.{Call}
use Rattle.policy_base.specs.declared.call.Call.TheVariants.{Any, Drop, Internal, Link, Path, Of}
use Rattle.policy_base.specs.declared.policy.FromSet.{FromSet}
use Rattle.policy_base.specs.declared.policy.FromSet.TheVariants as from_set
use Rattle.policy_base.specs.declared.policy.Origin.{Origin}
use Rattle.policy_base.specs.Policies.{Ranking, call, calls, prefer, either, both, negated, PlainStatement, PlainPolicy}
use Rattle.policy_text.specs.PolicyText.{names_in, are_all, has_sets, is_everything}
use Rattle.policy_text.specs.Printable.{open_brackets}
use Rattle.policy_text.proofs.Words.{Word, sign, name, figure, AreWords, next_name, name_words, set_words, braced_words, place_words, next_place, places_words, call_symbol}
use Rattle.policy_text.proofs.Words.{sets_words, next_sets, calls_words, in_brackets, ranking_words, pattern_words, next_pattern, patterns_words, from_words}
use Rattle.policy_text.proofs.Words.{statement_words, origin_words, policy_words}
use Rattle.policy_text.proofs.Readings.{symbol_in, has_symbol}

-- these words open no more than so many brackets at once, and close what they open
pub record IsShallow (bytes : List ℕ) (v : List Word) (most : ℕ) : Type 0 where
  pub skip : (n : ℕ) (ls : List Lexeme) (ws : List Word) → n + most ≤ 64 → AreWords bytes ls (v ++ ws) → (rest : List Lexeme) × (first_deep n ls ≡ first_deep n rest) × AreWords bytes rest ws

-- a symbol that is no round bracket
abbrev IsPlain : Symbol → Type 0
IsPlain s = (n : ℕ) → (is_too_deep n s ≡ false) × (open_behind n s ≡ n)

module _ (bytes : List ℕ) where
  none : (most : ℕ) → IsShallow bytes [] most
  none most = record { skip = λ n ls ws room are. (ls, refl, are) }

  lower : {v : List Word} {most more : ℕ} → most ≤ more → IsShallow bytes v most → IsShallow bytes v more
  lower less f = record { skip = λ n ls ws room are. f.skip n ls ws (omega (arith, room, less)) are }

  in_turn : {v w : List Word} {most : ℕ} → IsShallow bytes v most → IsShallow bytes w most → IsShallow bytes (v ++ w) most
  in_turn {v} {w} f g = record {
    skip = λ n ls ws room are.
        let x = f.skip n ls (w ++ ws) room (subst (λ (u : List Word). AreWords bytes ls u) (append_assoc v w ws) are) in
        let y = g.skip n x.0 ws room x.2 in
        (y.0, x.1 ∙ y.1, y.2);
  }

  plain_step : (n : ℕ) (l : Lexeme) (ls : List Lexeme) (s : Symbol) → l.symbol ≡ s → IsPlain s → first_deep n (l ∷ ls) ≡ first_deep n ls
  plain_step n l ls s is plain = rw (is, (plain n).0, (plain n).1) refl

  one : (w : Word) → IsPlain (symbol_in w) → (most : ℕ) → IsShallow bytes (w ∷ []) most
  one w plain most = record { skip = step } where
    step : (n : ℕ) (ls : List Lexeme) (ws : List Word) → n + most ≤ 64 → AreWords bytes ls (w ∷ ws) → (rest : List Lexeme) × (first_deep n ls ≡ first_deep n rest) × AreWords bytes rest ws
    step n [] ws room are = absurd are
    step n (l ∷ ls) ws room are = (ls, plain_step n l ls (symbol_in w) (has_symbol bytes l w are.0) plain, are.1)

  open_step : (n : ℕ) (l : Lexeme) (ls : List Lexeme) → l.symbol ≡ symbol.RoundOpen → n < 64 → first_deep n (l ∷ ls) ≡ first_deep (n + 1) ls
  open_step n l ls is room = rw (is, lt-leb 64 n room) refl

  close_step : (n : ℕ) (l : Lexeme) (ls : List Lexeme) → l.symbol ≡ symbol.RoundClose → first_deep (n + 1) (l ∷ ls) ≡ first_deep n ls
  close_step n l ls is = let back : n + 1 - 1 ≡ n = omega arith in rw (is, back) refl

  round : {v : List Word} {most : ℕ} → IsShallow bytes v most → IsShallow bytes (sign symbol.RoundOpen ∷ (v ++ sign symbol.RoundClose ∷ [])) (1 + most)
  round {v} {most} f = record { skip = step } where
    close : (n : ℕ) (ls : List Lexeme) (ws : List Word) → AreWords bytes ls (sign symbol.RoundClose ∷ ws) → (rest : List Lexeme) × (first_deep (n + 1) ls ≡ first_deep n rest) × AreWords bytes rest ws
    close n [] ws are = absurd are
    close n (l ∷ ls) ws are = (ls, close_step n l ls are.0, are.1)

    step : (n : ℕ) (ls : List Lexeme) (ws : List Word) → n + (1 + most) ≤ 64
        → AreWords bytes ls (sign symbol.RoundOpen ∷ (v ++ sign symbol.RoundClose ∷ []) ++ ws)
        → (rest : List Lexeme) × (first_deep n ls ≡ first_deep n rest) × AreWords bytes rest ws
    step n [] ws room are = absurd are
    step n (l ∷ ls) ws room are =
        let x = f.skip (n + 1) ls (sign symbol.RoundClose ∷ ws) (omega (arith, room)) (subst (λ (u : List Word). AreWords bytes ls u) (append_assoc v (sign symbol.RoundClose ∷ []) ws) are.1) in
        let y = close n x.0 ws x.2 in
        (y.0, open_step n l ls are.0 (omega (arith, room)) ∙ x.1 ∙ y.1, y.2)

  each : {A : Type 0} (most : ℕ) (f : A → List Word) → ((x : A) → IsShallow bytes (f x) most) → (xs : List A) → IsShallow bytes (flat_map f xs) most
  each most f part [] = none most
  each most f part (x ∷ xs) = in_turn (part x) (each most f part xs)

  chosen : (b : Bool) {v w : List Word} {most : ℕ} → IsShallow bytes v most → IsShallow bytes w most → IsShallow bytes (if b then v else w) most
  chosen true f g = f
  chosen false f g = g

  names : (ns : List (List ℕ)) → IsShallow bytes (name_words ns) 0
  names [] = none 0
  names (n ∷ ns) = in_turn (one (name n) (λ k. (refl, refl)) 0) (each 0 next_name (λ m. in_turn (one (sign symbol.Comma) (λ k. (refl, refl)) 0) (one (name m) (λ k. (refl, refl)) 0)) ns)

  in_braces : (ns : List (List ℕ)) → IsShallow bytes (sign symbol.BraceOpen ∷ (name_words ns ++ sign symbol.BraceClose ∷ [])) 0
  in_braces ns = in_turn (in_turn (one (sign symbol.BraceOpen) (λ k. (refl, refl)) 0) (names ns)) (one (sign symbol.BraceClose) (λ k. (refl, refl)) 0)

  braced : (ns : List (List ℕ)) → IsShallow bytes (braced_words ns) 0
  braced [] = in_braces []
  braced (n ∷ []) = one (name n) (λ k. (refl, refl)) 0
  braced (n ∷ m ∷ ns) = in_braces (n ∷ m ∷ ns)

  plain_call : (c : Call) → IsPlain (call_symbol c)
  plain_call c = λ k. (refl, refl)

  module _ (net : PlainNet) where
    set : (ns : List (List ℕ)) → IsShallow bytes (set_words net ns) 0
    set ns = chosen (are_all net ns) (one (sign (symbol.Call word.Any)) (λ k. (refl, refl)) 0) (names ns)

    place : (ns : List (List ℕ)) → IsShallow bytes (place_words net ns) 0
    place ns = chosen (are_all net ns) (one (sign (symbol.Call word.Any)) (λ k. (refl, refl)) 0) (braced ns)

    places : (ss : List LocSet) → IsShallow bytes (places_words net ss) 0
    places [] = none 0
    places (s ∷ ss) = in_turn (place (names_in net s)) (each 0 (next_place net) (λ t. in_turn (one (sign symbol.Comma) (λ k. (refl, refl)) 0) (place (names_in net t))) ss)

    sets : (c : Call) → IsShallow bytes (sets_words net c) 0
    sets Any = none 0
    sets Drop = none 0
    sets Internal = none 0
    sets (Of c s) = set (names_in net s)
    sets (Link a b) = places (a ∷ b ∷ [])
    sets (Path ps) = places ps

    by_sets : (c : Call) (b : Bool) → IsShallow bytes (sign (call_symbol c) ∷ (if b then sign symbol.RoundOpen ∷ (sets_words net c ++ sign symbol.RoundClose ∷ []) else [])) (if b then 1 else 0)
    by_sets c true = in_turn (one (sign (call_symbol c)) (plain_call c) 1) (lower (omega arith) (round (sets c)))
    by_sets c false = one (sign (call_symbol c)) (plain_call c) 0

    calls_shallow : (cs : List Call) → IsShallow bytes (calls_words net cs) 1
    calls_shallow [] = none 1
    calls_shallow (c ∷ cs) =
        in_turn (one (sign (call_symbol c)) (plain_call c) 1)
        (lower (omega arith) (round (in_turn (sets c) (each 0 (next_sets net) (λ d. in_turn (one (sign symbol.Above) (λ k. (refl, refl)) 0) (sets d)) cs))))

    by_brackets : (b : Bool) {v : List Word} {most : ℕ} → IsShallow bytes v most → IsShallow bytes (in_brackets b v) ((if b then 1 else 0) + most)
    by_brackets true f = round f
    by_brackets false f = lower (omega arith) f

    sides : (s : Symbol) → IsPlain s → {v w : List Word} {m n : ℕ} → IsShallow bytes v m → IsShallow bytes w n → IsShallow bytes (v ++ sign s ∷ [] ++ w) (max m n)
    sides s plain {v} {w} {m} {n} f g = in_turn (in_turn (lower (omega arith) f) (one (sign s) plain (max m n))) (lower (omega arith) g)

    ranking : (least : ℕ) (r : Ranking) → IsShallow bytes (ranking_words net least r) (open_brackets least r)
    ranking least (call c) = by_sets c (has_sets c)
    ranking least (calls cs) = calls_shallow cs
    ranking least (prefer a b) = by_brackets (nat_lt 1 least) (sides symbol.Above (λ k. (refl, refl)) (ranking 1 a) (ranking 2 b))
    ranking least (either a b) = by_brackets (nat_lt 2 least) (sides symbol.Or (λ k. (refl, refl)) (ranking 2 a) (ranking 3 b))
    ranking least (both a b) = by_brackets (nat_lt 3 least) (sides symbol.And (λ k. (refl, refl)) (ranking 3 a) (ranking 4 b))
    ranking least (negated a) = by_brackets (nat_lt 4 least) (in_turn (one (sign symbol.Not) (λ k. (refl, refl)) _) (ranking 5 a))

    pattern : (p : PlainPattern) → IsShallow bytes (pattern_words p) 0
    pattern p =
        chosen (p.upto == p.base.len) (one (figure (prefix_text p.base)) (λ k. (refl, refl)) 0)
        (in_turn (one (figure (prefix_text p.base)) (λ k. (refl, refl)) 0) (in_turn (one (sign symbol.Le) (λ k. (refl, refl)) 0) (one (figure (decimal p.upto)) (λ k. (refl, refl)) 0)))

    patterns : (ps : List PlainPattern) → IsShallow bytes (patterns_words ps) 0
    patterns [] = none 0
    patterns (p ∷ []) = chosen (is_everything p) (one (sign symbol.True) (λ k. (refl, refl)) 0) (pattern p)
    patterns (p ∷ q ∷ ps) = in_turn (pattern p) (each 0 next_pattern (λ x. in_turn (one (sign symbol.Or) (λ k. (refl, refl)) 0) (pattern x)) (q ∷ ps))

    sources : (f : FromSet) → IsShallow bytes (from_words net f) 0
    sources from_set.Any = none 0
    sources (from_set.Named s) = in_turn (one (sign symbol.From) (λ k. (refl, refl)) 0) (names (names_in net s))

    statement : (s : PlainStatement) → open_brackets 1 s.ranked ≤ 64 → IsShallow bytes (statement_words net s) 64
    statement s few =
        in_turn (in_turn
        (in_turn (in_turn (lower (omega arith) (patterns s.patterns)) (one (sign symbol.Arrow) (λ k. (refl, refl)) 64)) (lower few (ranking 1 s.ranked)))
        (lower (omega arith) (sources s.from)))
        (one (sign symbol.Semicolon) (λ k. (refl, refl)) 64)

    origin : (o : Origin) → IsShallow bytes (origin_words net o) 64
    origin o =
        in_turn (one (sign symbol.Originate) (λ k. (refl, refl)) 64) (in_turn (one (figure (prefix_text o.prefix)) (λ k. (refl, refl)) 64) (in_turn (one (sign symbol.At) (λ k. (refl, refl)) 64)
        (in_turn (lower (omega arith) (names (names_in net o.at))) (one (sign symbol.Semicolon) (λ k. (refl, refl)) 64))))

    each_statement : (ss : List PlainStatement) → AllByRecursion (λ (s : PlainStatement). open_brackets 1 s.ranked ≤ 64) ss → IsShallow bytes (flat_map (statement_words net) ss) 64
    each_statement [] all = none 64
    each_statement (s ∷ ss) all = in_turn (statement s all.0) (each_statement ss all.1)

    -- no bracket of a printed text is too deep
    pub first_deep-none : (policy : PlainPolicy) → AllByRecursion (λ (s : PlainStatement). open_brackets 1 s.ranked ≤ 64) policy.statements
        → (ls : List Lexeme) → AreWords bytes ls (policy_words net policy ++ sign symbol.EndOfText ∷ []) → first_deep 0 ls ≡ None
    first_deep-none policy few ls are =
        let whole : IsShallow bytes (policy_words net policy) 64 = in_turn (each 64 (origin_words net) origin policy.origins) (each_statement policy.statements few) in
        let end = in_turn whole (one (sign symbol.EndOfText) (λ k. (refl, refl)) 64) in
        let x = end.skip 0 ls [] (omega arith) (subst (λ (u : List Word). AreWords bytes ls u) (sym (append-nil (policy_words net policy ++ sign symbol.EndOfText ∷ []))) are) in
        x.1 ∙ ended x.0 x.2 where
          ended : (rest : List Lexeme) → AreWords bytes rest [] → first_deep 0 rest ≡ None
          ended [] all = refl
          ended (l ∷ rest) all = absurd all
