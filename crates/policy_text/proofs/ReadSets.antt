-- Names and sets are read from their words.
use Rattle.std.proofs.Common.{◌≡◌, ℕ, List, [], ◌∷◌, ◌++◌, Bool, true, false, refl, sym, ◌∙◌, subst, append_assoc}
use Rattle.std.specs.Prelude.{if◌then◌else◌}
use Rattle.std.specs.List.{AllByRecursion}
use Rattle.net_base.specs.Network.{PlainNet}
use Rattle.policy_grammar.specs.declared.lexeme.Lexeme.{Lexeme}
use Rattle.policy_grammar.specs.declared.symbol.Symbol.TheVariants as symbol
use Rattle.policy_words.specs.declared.word.CallWord.TheVariants as word
use Rattle.policy_grammar.specs.Raw.{Arg, Arg as arg}
use Rattle.policy_grammar.specs.Reading.{first_of}
use Rattle.policy_grammar.specs.Names.{names_at, braced_at}
use Rattle.policy_grammar.specs.Calls.{set_at, one_at}
use Rattle.policy_rules.specs.Checks.{text}
use Rattle.policy_text.specs.PolicyText.{are_all}
use Rattle.policy_text.proofs.Words.{Word, sign, name, AreWords, name_words, set_words, braced_words, place_words}
use Rattle.policy_text.proofs.Readings.{IsPast, Pairs, Reads, ReaderOf, Reads-first, either-here, either-not, Reads-list, passes}

-- the lexemes have these names
abbrev pub AreNamesOf : List ℕ → List Lexeme → List (List ℕ) → Type 0
AreNamesOf bytes ls ns = Pairs (λ (l : Lexeme) (n : List ℕ). text bytes l ≡ n) ls ns

-- the argument names these
abbrev pub IsArgOf : List ℕ → PlainNet → Arg → List (List ℕ) → Type 0
IsArgOf bytes net arg.Any names = are_all net names ≡ true
IsArgOf bytes net (arg.Names ls) names = AreNamesOf bytes ls names

-- there are names, unless none are all
abbrev pub AreFilled : PlainNet → List (List ℕ) → Type 0
AreFilled net [] = are_all net [] ≡ true
AreFilled net (n ∷ ns) = Unit {0}

abbrev pub Anything : List Word → Type 0
Anything ws = Unit {0}

module _ (bytes : List ℕ) (net : PlainNet) where
  reads_name : (n : List ℕ) → ReaderOf bytes (first_of symbol.Name) (λ (m : List ℕ). name m ∷ []) (λ (l : Lexeme) (m : List ℕ). text bytes l ≡ m) Anything n
  reads_name n ls ws are fits = let x = Reads-first bytes symbol.Name ls (name n) ws are refl in record { out = x.out; rest = x.rest; is = x.is; right = x.right.1; left = x.left }

  reads_each : (ns : List (List ℕ)) → AllByRecursion (ReaderOf bytes (first_of symbol.Name) (λ (m : List ℕ). name m ∷ []) (λ (l : Lexeme) (m : List ℕ). text bytes l ≡ m) Anything) ns
  reads_each [] = tt
  reads_each (n ∷ ns) = (reads_name n, reads_each ns)

  pub Reads-names : (n : List ℕ) (ns : List (List ℕ)) (ls : List Lexeme) (ws : List Word) → AreWords bytes ls (name_words (n ∷ ns) ++ ws) → IsPast symbol.Comma ws
      → Reads bytes (names_at ls) (λ out. AreNamesOf bytes out (n ∷ ns)) ws
  unfolding names_at
  Reads-names n ns ls ws are other =
      Reads-list bytes symbol.Comma (first_of symbol.Name) (λ (m : List ℕ). name m ∷ []) (λ (l : Lexeme) (m : List ℕ). text bytes l ≡ m) Anything
      (λ w. tt) n ns (reads_name n) (reads_each ns) ls ws are tt other

  Reads-braced : (n : List ℕ) (ns : List (List ℕ)) (ls : List Lexeme) (ws : List Word) → AreWords bytes ls (sign symbol.BraceOpen ∷ (name_words (n ∷ ns) ++ sign symbol.BraceClose ∷ []) ++ ws)
      → Reads bytes (braced_at ls) (λ out. AreNamesOf bytes out (n ∷ ns)) ws
  unfolding braced_at
  Reads-braced n ns ls ws are =
      let inside = passes bytes symbol.BraceOpen ls (sign symbol.BraceOpen) (name_words (n ∷ ns) ++ sign symbol.BraceClose ∷ [] ++ ws) are refl in
      let names =
      Reads-names n ns inside.rest (sign symbol.BraceClose ∷ ws)
      (subst (λ (w : List Word). AreWords bytes inside.rest w) (append_assoc (name_words (n ∷ ns)) (sign symbol.BraceClose ∷ []) ws) inside.left) refl in
      let rest = passes bytes symbol.BraceClose names.rest (sign symbol.BraceClose) ws names.left refl in
      record { out = names.out; rest = rest.rest; is = rw (inside.is, names.is, rest.is) refl; right = names.right; left = rest.left }

  any_set : (names : List (List ℕ)) (ls : List Lexeme) (ws : List Word) → are_all net names ≡ true
      → AreWords bytes ls (sign (symbol.Call word.Any) ∷ ws) → Reads bytes (set_at ls) (λ a. IsArgOf bytes net a names) ws
  unfolding set_at
  any_set names [] ws all are = absurd are
  any_set names (l ∷ ls) ws all are = record { out = arg.Any; rest = ls; is = either-here bytes (symbol.Call word.Any) l ls (sign (symbol.Call word.Any)) _ _ are.0 refl; right = all; left = are.1 }

  named_set : (n : List ℕ) (ns : List (List ℕ)) (ls : List Lexeme) (ws : List Word) → AreWords bytes ls (name_words (n ∷ ns) ++ ws)
      → IsPast symbol.Comma ws → Reads bytes (set_at ls) (λ a. IsArgOf bytes net a (n ∷ ns)) ws
  unfolding set_at
  named_set n ns ls ws are other =
      let x = Reads-names n ns ls ws are other in
      record { out = arg.Names x.out; rest = x.rest; is = either-not bytes (symbol.Call word.Any) ls (name_words (n ∷ ns) ++ ws) _ _ are refl ∙ rw x.is refl; right = x.right; left = x.left }

  by_all : (b : Bool) (names : List (List ℕ)) (ls : List Lexeme) (ws : List Word) → are_all net names ≡ b → AreFilled net names
      → AreWords bytes ls ((if b then sign (symbol.Call word.Any) ∷ [] else name_words names) ++ ws) → IsPast symbol.Comma ws
      → Reads bytes (set_at ls) (λ a. IsArgOf bytes net a names) ws
  by_all true names ls ws all filled are other = any_set names ls ws all are
  by_all false [] ls ws all filled are other = absurd (let e : true ≡ false = sym filled ∙ all in cc)
  by_all false (n ∷ ns) ls ws all filled are other = named_set n ns ls ws are other

  pub Reads-set : (names : List (List ℕ)) (ls : List Lexeme) (ws : List Word) → AreFilled net names → AreWords bytes ls (set_words net names ++ ws) → IsPast symbol.Comma ws
      → Reads bytes (set_at ls) (λ a. IsArgOf bytes net a names) ws
  Reads-set names ls ws filled are other = by_all (are_all net names) names ls ws refl filled are other

  any_place : (names : List (List ℕ)) (ls : List Lexeme) (ws : List Word) → are_all net names ≡ true
      → AreWords bytes ls (sign (symbol.Call word.Any) ∷ ws) → Reads bytes (one_at ls) (λ a. IsArgOf bytes net a names) ws
  unfolding one_at
  any_place names [] ws all are = absurd are
  any_place names (l ∷ ls) ws all are = record { out = arg.Any; rest = ls; is = either-here bytes (symbol.Call word.Any) l ls (sign (symbol.Call word.Any)) _ _ are.0 refl; right = all; left = are.1 }

  one_place : (n : List ℕ) (ls : List Lexeme) (ws : List Word) → AreWords bytes ls (name n ∷ ws) → Reads bytes (one_at ls) (λ a. IsArgOf bytes net a (n ∷ [])) ws
  unfolding one_at
  one_place n ls ws are =
      let x = Reads-first bytes symbol.Name ls (name n) ws are refl in
      record {
        out = arg.Names (x.out ∷ []);
        rest = x.rest;
        is = either-not bytes (symbol.Call word.Any) ls (name n ∷ ws) _ _ are refl ∙ either-not bytes symbol.BraceOpen ls (name n ∷ ws) _ _ are refl ∙ rw x.is refl;
        right = (x.right.1, tt);
        left = x.left;
      }

  braced_place : (n m : List ℕ) (ns : List (List ℕ)) (ls : List Lexeme) (ws : List Word) → AreWords bytes ls (braced_words (n ∷ m ∷ ns) ++ ws)
      → Reads bytes (one_at ls) (λ a. IsArgOf bytes net a (n ∷ m ∷ ns)) ws
  unfolding one_at
  braced_place n m ns [] ws are = absurd are
  braced_place n m ns (l ∷ ls) ws are =
      let x = Reads-braced n (m ∷ ns) (l ∷ ls) ws are in
      record {
        out = arg.Names x.out;
        rest = x.rest;
        is =
            either-not bytes (symbol.Call word.Any) (l ∷ ls) (braced_words (n ∷ m ∷ ns) ++ ws) _ _ are refl
            ∙ either-here bytes symbol.BraceOpen l ls (sign symbol.BraceOpen) _ _ are.0 refl ∙ rw x.is refl;
        right = x.right;
        left = x.left;
      }

  by_place : (b : Bool) (names : List (List ℕ)) (ls : List Lexeme) (ws : List Word) → are_all net names ≡ b → AreFilled net names
      → AreWords bytes ls ((if b then sign (symbol.Call word.Any) ∷ [] else braced_words names) ++ ws)
      → Reads bytes (one_at ls) (λ a. IsArgOf bytes net a names) ws
  by_place true names ls ws all filled are = any_place names ls ws all are
  by_place false [] ls ws all filled are = absurd (let e : true ≡ false = sym filled ∙ all in cc)
  by_place false (n ∷ []) ls ws all filled are = one_place n ls ws are
  by_place false (n ∷ m ∷ ns) ls ws all filled are = braced_place n m ns ls ws are

  pub Reads-place : (names : List (List ℕ)) → AreFilled net names → ReaderOf bytes one_at (place_words net) (IsArgOf bytes net) Anything names
  Reads-place names filled ls ws are fits = by_place (are_all net names) names ls ws refl filled are
