-- What reads a call, by its word.
use Rattle.std.proofs.Common.{◌≡◌, ℕ, inl, inr, List, [], ◌∷◌, ◌++◌, Option, Some, None, Err, refl, sym, ap, ◌∙◌, subst}
use Rattle.policy_grammar.specs.declared.lexeme.Lexeme.{Lexeme}
use Rattle.policy_grammar.specs.declared.symbol.Symbol.{Symbol}
use Rattle.policy_grammar.specs.declared.symbol.Symbol.TheVariants as symbol
use Rattle.policy_words.specs.declared.word.CallWord.{CallWord}
use Rattle.policy_words.specs.declared.word.CallWord.TheVariants.{Any, Drop, Internal, Link, Path, Of}
use Rattle.policy_grammar.specs.Raw.{RawCall}
use Rattle.policy_grammar.specs.Reading.{refused}
use Rattle.policy_grammar.specs.Calls.{word_of, call_behind, call_at}
use Rattle.grammar_law.specs.Grammar.{Is, Rule, IsCall, StandsAlone}
use Rattle.grammar_law.proofs.Lookups.{a_token, a_token-is}
use Rattle.grammar_law.proofs.Readers.{Before, Ended, Reads, WasRead, Sound, Stop, Stops, Exact, was_read_behind, stop_here, stop_behind}
use Rattle.grammar_law.proofs.Tokens.{NoToken}
use Rattle.grammar_law.proofs.Lists.{exact_in_words}
use Rattle.grammar_law.proofs.SetsReaders.{sets_words, sets_of}
use Rattle.grammar_law.proofs.CallReaders.{Behind, BehindPlain, behind_exact, free, free_fits, plain_of, link_words, link_call_of, path_words, path_call_of}

some_same : (a b : CallWord) → Some a ≡ Some b → a ≡ b
some_same a b e = cc

pub word_of-is : (s : Symbol) (word : CallWord) → word_of s ≡ Some word → s ≡ symbol.Call word
word_of-is (symbol.Call v) word e = ap symbol.Call (some_same v word e)
word_of-is _ word e = absurd cc

-- ---- what is read

abbrev pub Called : Before RawCall
Called x ls l = (t : Lexeme) × (back : List Lexeme) × (word : CallWord) × (ls ≡ t ∷ back) × (word_of t.symbol ≡ Some word) × Behind word x back l

call_at-some : (t : Lexeme) (back : List Lexeme) (word : CallWord) → word_of t.symbol ≡ Some word → call_at (t ∷ back) ≡ call_behind word back
unfolding call_at
call_at-some t back word e = rw e refl

call_at-none : (t : Lexeme) (back : List Lexeme) → word_of t.symbol ≡ None → call_at (t ∷ back) ≡ Err (refused (t ∷ back))
unfolding call_at
call_at-none t back e = rw e refl

call-reads : (n : ℕ) → Reads free n Called call_at
call-reads n x ls l rest g fits =
    ap (λ z. call_at (z ++ l ∷ rest)) g.3 ∙ call_at-some g.0 (g.1 ++ l ∷ rest) g.2 g.4 ∙ (behind_exact g.2).known.reads n x g.1 l rest g.5 (free_fits n g.1)

no_end : (t : Lexeme) (ls : List Lexeme) (word : CallWord) → word_of t.symbol ≡ Some word → Ended (t ∷ ls) → Ended ls
no_end t ls word e (inl i) = absurd (never (ap word_of (sym i.symbol) ∙ e))
  where
    never : None ≡ Some word → ⊥
    never e = cc
no_end t ls word e (inr ended) = ended

call-sound : Sound Called call_at
call-sound [] x after ended h = absurd ended
call-sound (t ∷ ls) x after ended h = by (word_of t.symbol) refl
  where
    by : (o : Option CallWord) → word_of t.symbol ≡ o → WasRead Called (t ∷ ls) x after
    by None e = let stuck = call_at-none t ls e in absurd cc
    by (Some word) e =
        let w = (behind_exact word).known.sound 0 ls x after (no_end t ls word e ended) (sym (call_at-some t ls word e) ∙ h) in
        was_read_behind t w (t, w.front, word, refl, e, w.by)

abbrev CalledPlain : Rule RawCall
CalledPlain x ls = (t : Lexeme) × (back : List Lexeme) × (word : CallWord) × (ls ≡ t ∷ back) × (word_of t.symbol ≡ Some word) × BehindPlain word x back

any_token : Lexeme
any_token = a_token (symbol.Call Any)

any-called : CalledPlain (plain_of Any) (any_token ∷ [])
unfolding any_token
any-called = (a_token (symbol.Call Any), [], Any, refl, ap word_of (a_token-is (symbol.Call Any)).symbol, (refl, refl))

call-stops : (n : ℕ) → Stops free CalledPlain n (λ m. call_at)
call-stops n [] e ended fits h = absurd ended
call-stops n (t ∷ ls) e ended fits h = by (word_of t.symbol) refl
  where
    by : (o : Option CallWord) → word_of t.symbol ≡ o → Stop CalledPlain n (λ m. call_at) (t ∷ ls) e
    by None is =
        let no_call = call_at-none t ls is in
        let named : e ≡ refused (t ∷ ls) = cc in
        stop_here named (λ m other. call_at-none t other is) (plain_of Any) (any_token ∷ []) any-called
    by (Some word) is =
        let s = (behind_exact word).stops n ls e (no_end t ls word is ended) (free_fits n ls) (sym (call_at-some t ls word is) ∙ h) in
        stop_behind t s (λ m other le. call_at-some t (s.front ++ s.here ∷ other) word is ∙ s.always m other le) (t, s.front ++ s.back, word, refl, is, s.whole)

-- ---- in the words of the grammar

alone_words : (word : CallWord) (x : RawCall) (ls : List Lexeme) → NoToken (plain_of word) x ls → StandsAlone word → (t : Lexeme) → Is (symbol.Call word) t → IsCall x (t ∷ ls)
alone_words word x ls p a t i = subst (λ z. IsCall z (t ∷ ls)) (sym p.0) (subst (λ z. IsCall (plain_of word) (t ∷ z)) (sym p.1) (IsCall.alone a i))

behind_words : (word : CallWord) (x : RawCall) (ls : List Lexeme) → BehindPlain word x ls → (t : Lexeme) → t.symbol ≡ symbol.Call word → IsCall x (t ∷ ls)
behind_words Any x ls p t i = alone_words Any x ls p StandsAlone.any t (record { symbol = i })
behind_words Drop x ls p t i = alone_words Drop x ls p StandsAlone.drop t (record { symbol = i })
behind_words Internal x ls p t i = alone_words Internal x ls p StandsAlone.internal t (record { symbol = i })
behind_words Link x ls p t i = link_words x ls p t (record { symbol = i })
behind_words Path x ls p t i = path_words x ls p t (record { symbol = i })
behind_words (Of c) x ls p t i = sets_words c x ls p t (record { symbol = i })

called_words : (x : RawCall) (ls : List Lexeme) → CalledPlain x ls → IsCall x ls
called_words x ls p = subst (IsCall x) (sym p.3) (behind_words p.2 x p.1 p.5 p.0 (word_of-is p.0.symbol p.2 p.4))

called-plain : (x : RawCall) (ls : List Lexeme) (l : Lexeme) → Called x ls l → CalledPlain x ls
called-plain x ls l g = (g.0, g.1, g.2, g.3, g.4, (behind_exact g.2).known.plain x g.1 l g.5)

pub call_exact : Exact free Called IsCall (λ n. call_at)
call_exact = exact_in_words free Called CalledPlain IsCall (λ n. call_at) called_words (record {
  known = record {
    plain = called-plain;
    balanced = λ n x ls ms l g fits. free_fits n ms;
    some = (plain_of Any, any_token ∷ [], any-called);
    reads = call-reads;
    sound = λ n. call-sound;
  };
  stops = call-stops;
})

stands_alone : {word : CallWord} → StandsAlone word → (l : Lexeme) → Behind word (plain_of word) [] l
stands_alone StandsAlone.any l = (refl, refl)
stands_alone StandsAlone.drop l = (refl, refl)
stands_alone StandsAlone.internal l = (refl, refl)

pub call_of : (l : Lexeme) {x : RawCall} {ls : List Lexeme} → IsCall x ls → Called x ls l
call_of l (IsCall.alone {word = word} {w = w} a i) = (w, [], word, refl, ap word_of i.symbol, stands_alone a l)
call_of l (IsCall.sets {one = one} {w = w} {o = o} {c = c} {x = x} {xs = xs} {ts = ts} {us = us} i j s m k) =
    (w, o ∷ ts ++ us ++ c ∷ [], Of one, refl, ap word_of i.symbol, sets_of one l j s m k)
call_of l (IsCall.link {w = w} {o = o} {m = m} {c = c} {ts = ts} {us = us} i j a k b e) =
    (w, o ∷ ts ++ m ∷ us ++ c ∷ [], Link, refl, ap word_of i.symbol, link_call_of l j a k b e)
call_of l (IsCall.path {w = w} {o = o} {m = m} {c = c} {ts = ts} {us = us} {vs = vs} i j a k b d e) =
    (w, o ∷ ts ++ m ∷ us ++ vs ++ c ∷ [], Path, refl, ap word_of i.symbol, path_call_of l j a k b d e)
