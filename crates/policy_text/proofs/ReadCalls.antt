-- Calls are read from their words.
use Rattle.std.proofs.Common.{◌≡◌, ℕ, ◌≤◌, List, [], ◌∷◌, ◌++◌, length, map, None, Ok, refl, sym, ◌∙◌, subst, arith, append_assoc, append-nil}
use Rattle.std.specs.Prelude.{if◌then◌else◌, IsTrue}
use Rattle.std.specs.List.{flat_map, AllByRecursion}
use Rattle.net_base.specs.declared.loc.LocSet.{LocSet}
use Rattle.net_base.specs.Network.{PlainNet}
use Rattle.policy_grammar.specs.declared.lexeme.Lexeme.{Lexeme}
use Rattle.policy_grammar.specs.declared.symbol.Symbol.TheVariants as symbol
use Rattle.policy_grammar.specs.Raw.{Arg, RawCall}
use Rattle.policy_words.specs.declared.word.SetCall.{SetCall}
use Rattle.policy_words.specs.declared.word.CallWord.{CallWord}
use Rattle.policy_words.specs.declared.word.CallWord.TheVariants as word
use Rattle.policy_grammar.specs.Reading.{Read}
use Rattle.policy_grammar.specs.Calls.{set_at, one_at, above_at, sets_call, link_call, path_call, call_behind, call_at}
use Rattle.policy_base.specs.declared.call.Call.{Call}
use Rattle.policy_base.specs.declared.call.Call.TheVariants.{Any, Drop, Internal, Link, Path, Of}
use Rattle.policy_base.specs.CallWords.{word_of}
use Rattle.policy_text.specs.PolicyText.{names_in, has_sets}
use Rattle.policy_text.specs.Printable.{has_one_set}
use Rattle.policy_text.specs.Values.{sets_in}
use Rattle.policy_text.proofs.Words.{Word, sign, AreWords, place_words, places_words, sets_words, next_sets, next_place, call_symbol, call_words, calls_words}
use Rattle.policy_text.proofs.Readings.{IsPast, Pairs, Reads, ReaderOf, past-not, Reads-chain, passes}
use Rattle.policy_text.proofs.ReadSets.{IsArgOf, AreFilled, Anything, Reads-set, Reads-place}

-- the set of a call with one
abbrev pub set_in : Call → LocSet
set_in (Of c s) = s
set_in _ = record { words = [] }

abbrev pub IsSetArg : List ℕ → PlainNet → Arg → LocSet → Type 0
IsSetArg bytes net a s = IsArgOf bytes net a (names_in net s)

-- a call of the text with this word and these sets
pub record IsRawCall (bytes : List ℕ) (net : PlainNet) (w : CallWord) (sets : List LocSet) (c : RawCall) : Type 0 where
  pub word : c.word ≡ w
  pub args : Pairs (IsSetArg bytes net) c.args sets

-- the same, without a `>>`
abbrev pub IsLoneCall : List ℕ → PlainNet → CallWord → List LocSet → RawCall → Type 0
IsLoneCall bytes net w sets c = IsRawCall bytes net w sets c × (c.above ≡ None)

abbrev pub IsFilled : PlainNet → LocSet → Type 0
IsFilled net s = AreFilled net (names_in net s)

module _ (bytes : List ℕ) (net : PlainNet) where
  with_word : (c : Call) (l : Lexeme) (ls : List Lexeme) → l.symbol ≡ call_symbol c → call_at (l ∷ ls) ≡ call_behind (word_of c) ls
  unfolding call_at
  with_word c l ls is = rw is refl

  reads_set : (c : Call) → IsTrue (has_one_set c) → IsFilled net (set_in c)
      → ReaderOf bytes set_at (sets_words net) (λ (a : Arg) (d : Call). IsSetArg bytes net a (set_in d)) (λ ws. IsPast symbol.Comma ws) c
  reads_set Any one filled = absurd (cc)
  reads_set Drop one filled = absurd (cc)
  reads_set Internal one filled = absurd (cc)
  reads_set (Link a b) one filled = absurd (cc)
  reads_set (Path ps) one filled = absurd (cc)
  reads_set (Of c s) one filled = λ ls ws are other. Reads-set bytes net (names_in net s) ls ws filled are other

  abbrev pub HasOne : Call → Type 0
  HasOne c = IsTrue (has_one_set c) × IsFilled net (set_in c)

  reads_sets : (cs : List Call) → AllByRecursion HasOne cs
      → AllByRecursion (ReaderOf bytes set_at (sets_words net) (λ (a : Arg) (d : Call). IsSetArg bytes net a (set_in d)) (λ ws. IsPast symbol.Comma ws)) cs
  reads_sets [] all = tt
  reads_sets (c ∷ cs) all = (reads_set c all.0.0 all.0.1, reads_sets cs all.1)

  of_sets : (args : List Arg) (cs : List Call) → Pairs (λ (a : Arg) (d : Call). IsSetArg bytes net a (set_in d)) args cs → Pairs (IsSetArg bytes net) args (map set_in cs)
  of_sets [] [] all = tt
  of_sets [] (c ∷ cs) all = absurd all
  of_sets (a ∷ as') [] all = absurd all
  of_sets (a ∷ as') (c ∷ cs) all = (all.0, of_sets as' cs all.1)

  no_above : (cs : List Call) (rest : List Lexeme) (ws : List Word) → AreWords bytes rest (flat_map (next_sets net) cs ++ sign symbol.RoundClose ∷ ws) → length cs ≡ 0 → above_at rest ≡ None
  no_above [] rest ws are few = rw (past-not bytes symbol.Above rest (sign symbol.RoundClose ∷ ws) are refl) refl
  no_above (c ∷ cs) rest ws are few = absurd (omega (arith, few))

  Reads-sets_call : (k : SetCall) (c : Call) (cs : List Call) → HasOne c → AllByRecursion HasOne cs → (ls : List Lexeme) (ws : List Word)
      → AreWords bytes ls (sign symbol.RoundOpen ∷ (sets_words net c ++ flat_map (next_sets net) cs ++ sign symbol.RoundClose ∷ []) ++ ws)
      → Reads bytes (sets_call k ls) (λ raw. IsRawCall bytes net (word.Of k) (map set_in (c ∷ cs)) raw × (length cs ≡ 0 → raw.above ≡ None)) ws
  unfolding sets_call
  Reads-sets_call k c cs one all ls ws are =
      let more : List Word = flat_map (next_sets net) cs in
      let close : List Word = sign symbol.RoundClose ∷ ws in
      let inside = passes bytes symbol.RoundOpen ls (sign symbol.RoundOpen) (sets_words net c ++ more ++ sign symbol.RoundClose ∷ [] ++ ws) are refl in
      let left : AreWords bytes inside.rest (sets_words net c ++ (more ++ close)) =
      subst (λ (v : List Word). AreWords bytes inside.rest v)
      (append_assoc (sets_words net c ++ more) (sign symbol.RoundClose ∷ []) ws ∙ append_assoc (sets_words net c) more close) inside.left in
      let first = reads_set c one.0 one.1 inside.rest (more ++ close) left (follows cs ws) in
      let more_sets =
      Reads-chain bytes symbol.Above set_at (sets_words net) (λ (a : Arg) (d : Call). IsSetArg bytes net a (set_in d))
      (λ v. IsPast symbol.Comma v) (λ v. refl) cs (reads_sets cs all) (length first.rest)
      (first.out ∷ []) first.rest close first.left refl refl (omega arith) in
      let rest = passes bytes symbol.RoundClose more_sets.rest (sign symbol.RoundClose) ws more_sets.left refl in
      record {
        out = record { word = word.Of k; args = more_sets.out; above = above_at first.rest };
        rest = rest.rest;
        is = rw (inside.is, first.is, more_sets.is, rest.is) refl;
        right = (record { word = refl; args = rw more_sets.right.1 (first.right, of_sets more_sets.right.0 cs more_sets.right.2) }, λ few. no_above cs first.rest ws first.left few);
        left = rest.left;
      } where
        follows : (ds : List Call) (vs : List Word) → IsPast symbol.Comma (flat_map (next_sets net) ds ++ sign symbol.RoundClose ∷ vs)
        follows [] vs = refl
        follows (d ∷ ds) vs = refl

  reads_places : (ss : List LocSet) → AllByRecursion (IsFilled net) ss → AllByRecursion (ReaderOf bytes one_at (λ (s : LocSet). place_words net (names_in net s)) (IsSetArg bytes net) Anything) ss
  reads_places [] all = tt
  reads_places (s ∷ ss) all = (Reads-place bytes net (names_in net s) all.0, reads_places ss all.1)

  Reads-path_call : (a b : LocSet) (ss : List LocSet) → AllByRecursion (IsFilled net) (a ∷ b ∷ ss) → (ls : List Lexeme) (ws : List Word)
      → AreWords bytes ls (sign symbol.RoundOpen ∷ (places_words net (a ∷ b ∷ ss) ++ sign symbol.RoundClose ∷ []) ++ ws)
      → Reads bytes (path_call ls) (IsLoneCall bytes net word.Path (a ∷ b ∷ ss)) ws
  unfolding path_call
  Reads-path_call a b ss all ls ws are =
      let more : List Word = flat_map (next_place net) ss in
      let close : List Word = sign symbol.RoundClose ∷ ws in
      let first : List Word = place_words net (names_in net a) in
      let second : List Word = place_words net (names_in net b) in
      let inside = passes bytes symbol.RoundOpen ls (sign symbol.RoundOpen) (places_words net (a ∷ b ∷ ss) ++ sign symbol.RoundClose ∷ [] ++ ws) are refl in
      let left : AreWords bytes inside.rest (first ++ (sign symbol.Comma ∷ (second ++ more ++ close))) =
      subst (λ (v : List Word). AreWords bytes inside.rest v)
      (append_assoc (places_words net (a ∷ b ∷ ss)) (sign symbol.RoundClose ∷ []) ws ∙ append_assoc first (sign symbol.Comma ∷ second ++ more) close) inside.left in
      let one = Reads-place bytes net (names_in net a) all.0 inside.rest _ left tt in
      let comma = passes bytes symbol.Comma one.rest (sign symbol.Comma) (second ++ more ++ close) one.left refl in
      let two = Reads-place bytes net (names_in net b) all.1.0 comma.rest (more ++ close) (subst (λ (v : List Word). AreWords bytes comma.rest v) (append_assoc second more close) comma.left) tt in
      let more_sets =
      Reads-chain bytes symbol.Comma one_at (λ (s : LocSet). place_words net (names_in net s)) (IsSetArg bytes net) Anything (λ v. tt) ss
      (reads_places ss all.1.1) (length two.rest) (one.out ∷ two.out ∷ []) two.rest close two.left tt refl (omega arith) in
      let rest = passes bytes symbol.RoundClose more_sets.rest (sign symbol.RoundClose) ws more_sets.left refl in
      record {
        out = record { word = word.Path; args = more_sets.out; above = None };
        rest = rest.rest;
        is = rw (inside.is, one.is, comma.is, two.is, more_sets.is, rest.is) refl;
        right = (record { word = refl; args = rw more_sets.right.1 (one.right, (two.right, more_sets.right.2)) }, refl);
        left = rest.left;
      }

  Reads-link_call : (a b : LocSet) → IsFilled net a → IsFilled net b → (ls : List Lexeme) (ws : List Word)
      → AreWords bytes ls (sign symbol.RoundOpen ∷ (places_words net (a ∷ b ∷ []) ++ sign symbol.RoundClose ∷ []) ++ ws)
      → Reads bytes (link_call ls) (IsLoneCall bytes net word.Link (a ∷ b ∷ [])) ws
  unfolding link_call
  Reads-link_call a b fill fill' ls ws are =
      let close : List Word = sign symbol.RoundClose ∷ ws in
      let first : List Word = place_words net (names_in net a) in
      let second : List Word = place_words net (names_in net b) in
      let inside = passes bytes symbol.RoundOpen ls (sign symbol.RoundOpen) (places_words net (a ∷ b ∷ []) ++ sign symbol.RoundClose ∷ [] ++ ws) are refl in
      let left : AreWords bytes inside.rest (first ++ (sign symbol.Comma ∷ (second ++ [] ++ close))) =
      subst (λ (v : List Word). AreWords bytes inside.rest v)
      (append_assoc (places_words net (a ∷ b ∷ [])) (sign symbol.RoundClose ∷ []) ws ∙ append_assoc first (sign symbol.Comma ∷ second ++ []) close) inside.left in
      let one = Reads-place bytes net (names_in net a) fill inside.rest _ left tt in
      let comma = passes bytes symbol.Comma one.rest (sign symbol.Comma) (second ++ [] ++ close) one.left refl in
      let two = Reads-place bytes net (names_in net b) fill' comma.rest close (subst (λ (v : List Word). AreWords bytes comma.rest v) (append_assoc second [] close) comma.left) tt in
      let rest = passes bytes symbol.RoundClose two.rest (sign symbol.RoundClose) ws two.left refl in
      record {
        out = record { word = word.Link; args = one.out ∷ two.out ∷ []; above = None };
        rest = rest.rest;
        is = rw (inside.is, one.is, comma.is, two.is, rest.is) refl;
        right = (record { word = refl; args = (one.right, (two.right, tt)) }, refl);
        left = rest.left;
      }

  -- the sets of a call are filled, and a path has two at least
  abbrev pub IsReadable : Call → Type 0
  IsReadable (Path ps) = (2 ≤ length ps) × AllByRecursion (IsFilled net) ps
  IsReadable c = AllByRecursion (IsFilled net) (sets_in c)

  alone : (k : SetCall) (c : Call) → HasOne c → (ls : List Lexeme) (ws : List Word) → AreWords bytes ls (sign symbol.RoundOpen ∷ (sets_words net c ++ sign symbol.RoundClose ∷ []) ++ ws)
      → Reads bytes (sets_call k ls) (IsLoneCall bytes net (word.Of k) (set_in c ∷ [])) ws
  alone k c one ls ws are =
      let x =
      Reads-sets_call k c [] one tt ls ws
      (subst (λ (v : List Word). AreWords bytes ls (sign symbol.RoundOpen ∷ (v ++ sign symbol.RoundClose ∷ []) ++ ws)) (sym (append-nil (sets_words net c))) are) in
      record { out = x.out; rest = x.rest; is = x.is; right = (x.right.0, x.right.1 refl); left = x.left }

  bare : (w : CallWord) (ls : List Lexeme) (ws : List Word) → AreWords bytes ls ws
      → Reads bytes (let r : Read RawCall = Ok (record { word = w; args = []; above = None }, ls) in r) (IsLoneCall bytes net w []) ws
  bare w ls ws are = record { out = record { word = w; args = []; above = None }; rest = ls; is = refl; right = (record { word = refl; args = tt }, refl); left = are }

  by_call : (c : Call) → IsReadable c → (ls : List Lexeme) (ws : List Word)
      → AreWords bytes ls ((if has_sets c then sign symbol.RoundOpen ∷ (sets_words net c ++ sign symbol.RoundClose ∷ []) else []) ++ ws)
      → Reads bytes (call_behind (word_of c) ls) (IsLoneCall bytes net (word_of c) (sets_in c)) ws
  by_call Any filled ls ws are = bare word.Any ls ws are
  by_call Drop filled ls ws are = bare word.Drop ls ws are
  by_call Internal filled ls ws are = bare word.Internal ls ws are
  by_call (Of k s) filled ls ws are = alone k (Of k s) (refl, filled.0) ls ws are
  by_call (Link a b) filled ls ws are = Reads-link_call a b filled.0 filled.1.0 ls ws are
  by_call (Path []) filled ls ws are = absurd (omega (arith, filled.0))
  by_call (Path (a ∷ [])) filled ls ws are = absurd (omega (arith, filled.0))
  by_call (Path (a ∷ b ∷ ss)) filled ls ws are = Reads-path_call a b ss filled.1 ls ws are

  -- a call
  pub Reads-call : (c : Call) → IsReadable c → (ls : List Lexeme) (ws : List Word) → AreWords bytes ls (call_words net c ++ ws)
      → Reads bytes (call_at ls) (IsLoneCall bytes net (word_of c) (sets_in c)) ws
  Reads-call c fine [] ws are = absurd are
  Reads-call c fine (l ∷ ls) ws are =
      let x = by_call c fine ls ws are.1 in
      record { out = x.out; rest = x.rest; is = with_word c l ls are.0 ∙ x.is; right = x.right; left = x.left }

  -- a call with ranked sets
  pub Reads-calls : (c : Call) (cs : List Call) → HasOne c → AllByRecursion HasOne cs → (ls : List Lexeme) (ws : List Word) → AreWords bytes ls (calls_words net (c ∷ cs) ++ ws)
      → Reads bytes (call_at ls) (IsRawCall bytes net (word_of c) (map set_in (c ∷ cs))) ws
  Reads-calls Any cs one all ls ws are = let h = one.0 in absurd (cc)
  Reads-calls Drop cs one all ls ws are = let h = one.0 in absurd (cc)
  Reads-calls Internal cs one all ls ws are = let h = one.0 in absurd (cc)
  Reads-calls (Link a b) cs one all ls ws are = let h = one.0 in absurd (cc)
  Reads-calls (Path ps) cs one all ls ws are = let h = one.0 in absurd (cc)
  Reads-calls (Of k s) cs one all [] ws are = absurd are
  Reads-calls (Of k s) cs one all (l ∷ ls) ws are =
      let x = Reads-sets_call k (Of k s) cs one all ls ws are.1 in
      record { out = x.out; rest = x.rest; is = with_word (Of k s) l ls are.0 ∙ x.is; right = x.right.0; left = x.left }
