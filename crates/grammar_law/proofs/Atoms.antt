-- What reads an atom, and what a bracket holds.
use Rattle.std.proofs.Common.{◌≡◌, ℕ, zero, suc, ◌≤◌, ◌⊎◌, inl, inr, List, [], ◌∷◌, ◌++◌, Ok, Err, refl, sym, ap, ◌∙◌, subst, append_assoc, append-nil, arith}
use Rattle.policy_tokens.specs.declared.fault.PolicyFault.{PolicyFault}
use Rattle.policy_grammar.specs.declared.lexeme.Lexeme.{Lexeme}
use Rattle.policy_grammar.specs.declared.symbol.Symbol.{Symbol}
use Rattle.policy_grammar.specs.declared.symbol.Symbol.TheVariants as symbol
use Rattle.policy_words.specs.declared.word.CallWord.{CallWord}
use Rattle.policy_grammar.specs.Raw.{RawCall, Step, Step as step}
use Rattle.policy_grammar.specs.Reading.{Read, refused, after}
use Rattle.policy_grammar.specs.Calls.{call_at}
use Rattle.policy_grammar.specs.Ranked.{Reader, atom_with, ranked_with, inner_at}
use Rattle.net_base.specs.Steps.{◌>>=◌}
use Rattle.policy_grammar.proofs.Symbols.{call_apart}
use Rattle.grammar_law.specs.Grammar.{Is, Rule, IsRanked, IsAtom, IsCall}
use Rattle.grammar_law.proofs.Lookups.{Differ, Isnt, is_or_isnt, is_other}
use Rattle.grammar_law.proofs.Readers.{Before, head, head_is, Ended, ended_behind, Reads, WasRead, Sound, Stop, Stops, Known, Exact, was_read_as, was_read_behind, stop_as, stop_behind}
use Rattle.grammar_law.proofs.Tokens.{Token, OneToken, Nothing, NoToken, nothing, no_token}
use Rattle.grammar_law.proofs.Sequences.{Then, ThenPlain, then, in_turn, then-sound, then-stops}
use Rattle.grammar_law.proofs.Choices.{choose-is, choose-isnt, behind}
use Rattle.grammar_law.proofs.NameReaders.{last_words, closed_words, closed_of}
use Rattle.grammar_law.proofs.CallReaders.{free, free_fits}
use Rattle.grammar_law.proofs.WholeCalls as calls
use Rattle.grammar_law.proofs.WholeCalls.{Called, call_exact}
use Rattle.grammar_law.proofs.Balance.{called_word, call_balanced, word_flat}
use Rattle.grammar_law.proofs.Nesting.{brackets, opened}

-- steps behind those that were read
abbrev pub Onto : List Step → Rule (List Step) → Rule (List Step)
Onto out R y ls = (xs : List Step) × (y ≡ out ++ xs) × R xs ls

abbrev pub Atom : List Step → Before (List Step)
Atom out y ls l = Onto out IsAtom y ls

-- ---- calls, with any room

called_exact : Exact brackets Called IsCall (λ n. call_at)
called_exact = record {
  known = record {
    plain = call_exact.known.plain;
    balanced = call_balanced;
    some = call_exact.known.some;
    reads = λ n x ls l rest g fits. call_exact.known.reads n x ls l rest g (free_fits n ls);
    sound = call_exact.known.sound;
  };
  stops = λ n ls e ended fits h. call_exact.stops n ls e ended (free_fits n ls) h;
}

abbrev CallStep : List Step → Before (List Step)
CallStep out = Then Called (λ x. Nothing (out ++ step.Call x ∷ []))

abbrev CallStepPlain : List Step → Rule (List Step)
CallStepPlain out = ThenPlain IsCall (λ x. NoToken (out ++ step.Call x ∷ []))

abbrev call_step : Reader
call_step out = then call_at (λ x. nothing (out ++ step.Call x ∷ []))

call_step_exact : (out : List Step) → Exact brackets (CallStep out) (CallStepPlain out) (λ n. call_step out)
call_step_exact out =
    in_turn brackets Called IsCall (λ x. Nothing (out ++ step.Call x ∷ [])) (λ x. NoToken (out ++ step.Call x ∷ [])) (λ n. call_at) (λ x n. nothing (out ++ step.Call x ∷ []))
    called_exact (λ x. no_token brackets (out ++ step.Call x ∷ []))

call_step_words : (out y : List Step) (ls : List Lexeme) → CallStepPlain out y ls → Onto out IsAtom y ls
call_step_words out y ls p = let w = last_words IsCall (λ x. out ++ step.Call x ∷ []) y ls p in (step.Call w.0 ∷ [], w.1, IsAtom.call w.2)

call_head : (s : Symbol) → ((word : CallWord) → Differ (symbol.Call word) s) → (l : Lexeme) {x : RawCall} {ls : List Lexeme} → IsCall x ls → Isnt s (head ls l)
call_head s unlike l {x} {ls} is =
    let c = calls.call_of l is in
    subst (λ z. Isnt s (head z l)) (sym c.3) (is_other (symbol.Call c.2) s c.0 (called_word x ls l c) (unlike c.2))

not_open : (word : CallWord) → Differ (symbol.Call word) symbol.RoundOpen
not_open word = (word_flat word).0

not_not : (word : CallWord) → Differ (symbol.Call word) symbol.Not
not_not word = call_apart word 8 (omega arith)

-- an atom begins with no `not`
pub atom_head : (l : Lexeme) {xs : List Step} {ls : List Lexeme} → IsAtom xs ls → Isnt symbol.Not (head ls l)
atom_head l (IsAtom.bracket {o = o} i r j) = is_other symbol.RoundOpen symbol.Not o i refl
atom_head l (IsAtom.call c) = call_head symbol.Not not_not l c

-- ---- brackets

abbrev Closing : List Step → Before (List Step)
Closing y = Then (Token symbol.RoundClose) (λ t. Nothing y)

abbrev ClosingPlain : List Step → Rule (List Step)
ClosingPlain y = ThenPlain (OneToken symbol.RoundClose) (λ t. NoToken y)

abbrev closing : List Step → List Lexeme → Read (List Step)
closing y ls = after symbol.RoundClose ls >>= λ rest. Ok (y, rest)

-- a bracket closes in a room of its own
closing_exact : (y : List Step) → Exact free (Closing y) (ClosingPlain y) (λ n. closing y)
closing_exact y = behind free symbol.RoundClose (Nothing y) (NoToken y) (λ n. nothing y) (λ n l ls i fits. free_fits n ls) refl (no_token free y)

-- with room for n brackets, what is there is read, and what is read is there
pub record ReadsAt (G : List Step → Before (List Step)) (n : ℕ) (f : Reader) : Type 0 where
  pub reads : (out : List Step) → Reads brackets n (G out) (f out)
  pub sound : (out : List Step) → Sound (G out) (f out)

-- an expression stands before a bracket that closes
pub record Encloses (G : List Step → Before (List Step)) : Type 0 where
  pub plain : (out y : List Step) (ls : List Lexeme) (l : Lexeme) → G out y ls l → Onto out IsRanked y ls
  pub before : (out : List Step) (l : Lexeme) → Is symbol.RoundClose l → {xs : List Step} {ls : List Lexeme} → IsRanked xs ls → G out (out ++ xs) ls l

inner_at-suc : (n : ℕ) (out : List Step) (ls : List Lexeme) → inner_at (suc n) out ls ≡ ranked_with (inner_at n) out ls
unfolding inner_at
inner_at-suc n out ls = refl

inner_at-zero : (out : List Step) (ls : List Lexeme) → inner_at 0 out ls ≡ Err (refused ls)
unfolding inner_at
inner_at-zero out ls = refl

abbrev enclosed : ℕ → Reader
enclosed n out = then (inner_at n out) closing

enclosed-suc : (n : ℕ) (out : List Step) (ls : List Lexeme) → enclosed (suc n) out ls ≡ then (ranked_with (inner_at n) out) closing ls
enclosed-suc n out ls = ap (λ z. z >>= λ x. closing x.0 x.1) (inner_at-suc n out ls)

enclosed_words : (out y : List Step) (o : Lexeme) (ls : List Lexeme) → Is symbol.RoundOpen o → ThenPlain (Onto out IsRanked) ClosingPlain y ls → Onto out IsAtom y (o ∷ ls)
enclosed_words out y o ls i p =
    let c = closed_words symbol.RoundClose p.0 y p.2 p.5 in
    (p.4.0, c.2 ∙ p.4.1, subst (λ z. IsAtom p.4.0 (o ∷ z)) (sym (p.3 ∙ ap (λ z. p.1 ++ z) c.3)) (IsAtom.bracket i p.4.2 c.1))

-- ---- an atom

-- what is known of the bracket inside, where one may be opened
abbrev pub Inner : (List Step → Before (List Step)) → ℕ → Type 0
Inner G zero = Unit {0}
Inner G (suc n) = ReadsAt G n (ranked_with (inner_at n))

atom_is : (n : ℕ) (out : List Step) (o : Lexeme) (ls : List Lexeme) → Is symbol.RoundOpen o → atom_with (inner_at n) out (o ∷ ls) ≡ enclosed n out ls
atom_is n out o ls i = choose-is symbol.RoundOpen (λ t. enclosed n out) (call_step out) o ls i

atom_isnt : (n : ℕ) (out : List Step) (ls : List Lexeme) (l : Lexeme) (rest : List Lexeme) → Isnt symbol.RoundOpen (head ls l)
    → atom_with (inner_at n) out (ls ++ l ∷ rest) ≡ call_step out (ls ++ l ∷ rest)
atom_isnt n out ls l rest i = choose-isnt symbol.RoundOpen (λ t. enclosed n out) (call_step out) ls l rest i

enclosed-reads : (G : List Step → Before (List Step)) → Encloses G → (n : ℕ) → ReadsAt G n (ranked_with (inner_at n)) → (out xs : List Step) (ts : List Lexeme) (c l : Lexeme) (rest : List Lexeme)
    → IsRanked xs ts → Is symbol.RoundClose c → brackets.Fits n ts → enclosed (suc n) out ((ts ++ c ∷ []) ++ l ∷ rest) ≡ Ok (out ++ xs, l ∷ rest)
enclosed-reads G enc n at out xs ts c l rest r j fits =
    ap (enclosed (suc n) out) (append_assoc ts (c ∷ []) (l ∷ rest)) ∙ enclosed-suc n out (ts ++ c ∷ l ∷ rest)
    ∙ ap (λ z. z >>= λ x. closing x.0 x.1) (at.reads out (out ++ xs) ts c (l ∷ rest) (enc.before out c j r) fits)
    ∙ (closing_exact (out ++ xs)).known.reads 0 (out ++ xs) (c ∷ []) l rest (closed_of symbol.RoundClose (out ++ xs) c l j) (free_fits 0 (c ∷ []))

bracket-reads : (G : List Step → Before (List Step)) → Encloses G → (n : ℕ) → Inner G n → (out xs : List Step) (o c l : Lexeme) (ts rest : List Lexeme)
    → Is symbol.RoundOpen o → IsRanked xs ts → Is symbol.RoundClose c → brackets.Fits n (o ∷ ts ++ c ∷ []) → atom_with (inner_at n) out ((o ∷ ts ++ c ∷ []) ++ l ∷ rest) ≡ Ok (out ++ xs, l ∷ rest)
bracket-reads G enc zero inner out xs o c l ts rest i r j fits = let room = opened 0 o (ts ++ c ∷ []) i fits in absurd (omega (arith, room.1))
bracket-reads G enc (suc n) inner out xs o c l ts rest i r j fits =
    let room = opened (suc n) o (ts ++ c ∷ []) i fits in
    let same : room.0 ≡ n = omega (arith, room.1) in
    atom_is (suc n) out o ((ts ++ c ∷ []) ++ l ∷ rest) i
    ∙ enclosed-reads G enc n inner out xs ts c l rest r j (brackets.front n ts (c ∷ []) (subst (λ k. brackets.Fits k (ts ++ c ∷ [])) same room.2))

pub atom-reads : (G : List Step → Before (List Step)) → Encloses G → (n : ℕ) → Inner G n → (out : List Step) → Reads brackets n (Atom out) (atom_with (inner_at n) out)
atom-reads G enc n inner out y ls l rest (xs, e, IsAtom.bracket {o = o} {c = c} {ts = ts} i r j) fits =
    bracket-reads G enc n inner out xs o c l ts rest i r j fits ∙ ap (λ z. Ok (z, l ∷ rest)) (sym e)
atom-reads G enc n inner out y ls l rest (xs, e, IsAtom.call {x = x} {ts = ts} c) fits =
    atom_isnt n out ls l rest (call_head symbol.RoundOpen not_open l c)
    ∙ (call_step_exact out).known.reads n y ls l rest (x, ls, [], sym (append-nil ls), calls.call_of l c, (e, refl)) fits

enclosed-sound : (G : List Step → Before (List Step)) → Encloses G → (n : ℕ) → Inner G n → (out y : List Step) (ls after : List Lexeme) → Ended ls → enclosed n out ls ≡ Ok (y, after)
    → WasRead (Then (G out) Closing) ls y after
enclosed-sound G enc zero inner out y ls after ended h =
    let stuck = ap (λ z. z >>= λ x. closing x.0 x.1) (inner_at-zero out ls) in absurd cc
enclosed-sound G enc (suc n) inner out y ls after ended h =
    then-sound (G out) Closing (ranked_with (inner_at n) out) closing (inner.sound out) (λ y. (closing_exact y).known.sound 0) ls y after ended (sym (enclosed-suc n out ls) ∙ h)

closing_plain : (G : List Step → Before (List Step)) → Encloses G → (out y : List Step) (ls : List Lexeme) (l : Lexeme) → Then (G out) Closing y ls l → ThenPlain (Onto out IsRanked) ClosingPlain y ls
closing_plain G enc out y ls l t = (t.0, t.1, t.2, t.3, enc.plain out t.0 t.1 (head t.2 l) t.4, t.5)

pub atom-sound : (G : List Step → Before (List Step)) → Encloses G → (n : ℕ) → Inner G n → (out : List Step) → Sound (Atom out) (atom_with (inner_at n) out)
atom-sound G enc n inner out [] y after ended h = absurd ended
atom-sound G enc n inner out (l ∷ ls) y after ended h = by (is_or_isnt symbol.RoundOpen l)
  where
    by : Is symbol.RoundOpen l ⊎ Isnt symbol.RoundOpen l → WasRead (Atom out) (l ∷ ls) y after
    by (inl i) =
        let w = enclosed-sound G enc n inner out y ls after (ended_behind symbol.RoundOpen l ls refl i ended) (sym (atom_is n out l ls i) ∙ h) in
        was_read_behind l w (enclosed_words out y l w.front i (closing_plain G enc out y w.front w.next w.by))
    by (inr i) =
        let w = (call_step_exact out).known.sound n (l ∷ ls) y after ended (sym (atom_isnt n out [] l ls i) ∙ h) in
        was_read_as w (call_step_words out y w.front ((call_step_exact out).known.plain y w.front w.next w.by))

-- ---- where it stops

abbrev pub InnerStops : ℕ → Type 0
InnerStops zero = Unit {0}
InnerStops (suc n) = (out : List Step) → Stops brackets (Onto out IsRanked) n (λ m. ranked_with (inner_at m) out)

enclosed-always : (n : ℕ) (out : List Step) (o : Lexeme) (ls : List Lexeme) (e : PolicyFault) → Is symbol.RoundOpen o → ((m : ℕ) → n ≤ m → then (ranked_with (inner_at m) out) closing ls ≡ Err e)
    → (m : ℕ) → suc n ≤ m → atom_with (inner_at m) out (o ∷ ls) ≡ Err e
enclosed-always n out o ls e i always zero le = absurd (omega arith)
enclosed-always n out o ls e i always (suc m) le = atom_is (suc m) out o ls i ∙ enclosed-suc m out ls ∙ always m (omega arith)

closing-some : (y : List Step) → (z : List Step) × (ls : List Lexeme) × ClosingPlain y z ls
closing-some y = (closing_exact y).known.some

bracket-stops : (G : List Step → Before (List Step)) → ((out : List Step) → Known brackets (G out) (Onto out IsRanked) (λ m. ranked_with (inner_at m) out)) → (n : ℕ) → InnerStops n
    → (out : List Step) (o : Lexeme) (ls : List Lexeme) (e : PolicyFault) → Is symbol.RoundOpen o → Ended ls → brackets.Fits n (o ∷ ls) → enclosed n out ls ≡ Err e
    → Stop (Onto out IsAtom) n (λ m. atom_with (inner_at m) out) (o ∷ ls) e
bracket-stops G known zero stops out o ls e i ended fits h = let room = opened 0 o ls i fits in absurd (omega (arith, room.1))
bracket-stops G known (suc n) stops out o ls e i ended fits h =
    let room = opened (suc n) o ls i fits in
    let same : room.0 ≡ n = omega (arith, room.1) in
    let s = then-stops brackets n (G out) (Onto out IsRanked) ClosingPlain (λ m. ranked_with (inner_at m) out) (λ y m. closing y) (known out) (stops out) closing-some
    (λ y ls e ended fits h. (closing_exact y).stops n ls e ended (free_fits n ls) h) ls e ended (subst (λ k. brackets.Fits k ls) same room.2) (sym (enclosed-suc n out ls) ∙ h) in
    stop_behind o s (λ m other le. enclosed-always n out o (s.front ++ s.here ∷ other) e i (λ k le. s.always k other le) m le)
    (enclosed_words out s.thing o (s.front ++ s.back) i s.whole)

pub atom-stops : (G : List Step → Before (List Step)) → ((out : List Step) → Known brackets (G out) (Onto out IsRanked) (λ m. ranked_with (inner_at m) out)) → (n : ℕ) → InnerStops n
    → (out : List Step) → Stops brackets (Onto out IsAtom) n (λ m. atom_with (inner_at m) out)
atom-stops G known n stops out [] e ended fits h = absurd ended
atom-stops G known n stops out (l ∷ ls) e ended fits h = by (is_or_isnt symbol.RoundOpen l)
  where
    by : Is symbol.RoundOpen l ⊎ Isnt symbol.RoundOpen l → Stop (Onto out IsAtom) n (λ m. atom_with (inner_at m) out) (l ∷ ls) e
    by (inl i) = bracket-stops G known n stops out l ls e i (ended_behind symbol.RoundOpen l ls refl i ended) fits (sym (atom_is n out l ls i) ∙ h)
    by (inr i) =
        let s = (call_step_exact out).stops n (l ∷ ls) e ended fits (sym (atom_isnt n out [] l ls i) ∙ h) in
        let first = subst (Isnt symbol.RoundOpen) (head_is s.front s.here l s.rest ls s.all) i in
        stop_as s (λ m other le. atom_isnt m out s.front s.here other first ∙ s.always m other le) s.thing s.back (call_step_words out s.thing (s.front ++ s.back) s.whole)

pub atom-some : (out : List Step) → (y : List Step) × (ls : List Lexeme) × Onto out IsAtom y ls
atom-some out = let c = call_exact.known.some in (out ++ step.Call c.0 ∷ [], c.1, (step.Call c.0 ∷ [], refl, IsAtom.call c.2))
