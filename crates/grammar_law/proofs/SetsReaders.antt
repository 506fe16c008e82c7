-- What reads the sets of a call, and where the first `>>` between them stands.
use Rattle.std.proofs.Common.{◌≡◌, ℕ, zero, suc, ◌⊎◌, inl, inr, List, [], ◌∷◌, ◌++◌, length, Option, Some, None, Ok, Err, refl, sym, ap, ◌∙◌, subst, append_assoc, append-nil}
use Rattle.std.proofs.Math.Path.{fun_ext}
use Rattle.net_base.specs.declared.place.Place.{Place}
use Rattle.policy_grammar.specs.declared.lexeme.Lexeme.{Lexeme}
use Rattle.policy_grammar.specs.declared.symbol.Symbol.TheVariants.{Call, Above, Comma, RoundOpen, RoundClose}
use Rattle.policy_grammar.specs.Raw.{Arg, RawCall}
use Rattle.policy_words.specs.declared.word.SetCall.{SetCall}
use Rattle.policy_words.specs.declared.word.CallWord.TheVariants.{Of}
use Rattle.policy_grammar.specs.Reading.{Read, past, after, either, chain}
use Rattle.policy_grammar.specs.Calls.{set_at, set_link, above_at, sets_call}
use Rattle.net_base.specs.Steps.{◌>>=◌}
use Rattle.grammar_law.specs.Grammar.{Is, Rule, IsMore, IsSet, IsCall, front_place}
use Rattle.grammar_law.proofs.Lookups.{Isnt, is_or_isnt, is_other, past-is, past-isnt}
use Rattle.grammar_law.proofs.Readers.{Before, head, head-append, Room, Passes, Exact}
use Rattle.grammar_law.proofs.Tokens.{Token, OneToken, Nothing, NoToken, nothing, no_token}
use Rattle.grammar_law.proofs.Sequences.{Then, ThenPlain, then, in_turn}
use Rattle.grammar_law.proofs.Choices.{behind, exact_same}
use Rattle.grammar_law.proofs.Repeats.{Links, Linked, Chained, repeat, repeated}
use Rattle.grammar_law.proofs.Lists.{exact_in_words, good_head}
use Rattle.grammar_law.proofs.NameReaders.{Set, set_exact, set_of, closed_words, closed_of, behind_words, behind_of}

-- the sets so far, and the place of the first `>>`
abbrev pub Seen : Type 0
Seen = List Arg × Option Place

pair_same : {s t : List Arg} {p q : Option Place} → s ≡ t → p ≡ q → (let x : Seen = (s, p) in x ≡ (t, q))
pair_same s p = λ i. (s i, p i)

abbrev pub earlier : Option Place → Option Place → Option Place
earlier (Some p) o = Some p
earlier None o = o

earlier-none : (p : Option Place) → earlier p None ≡ p
earlier-none (Some p) = refl
earlier-none None = refl

earlier-some : (p : Option Place) (q : Place) (o : Option Place) → earlier (earlier p (Some q)) o ≡ earlier p (Some q)
earlier-some (Some p) q o = refl
earlier-some None q o = refl

abbrev pub Seeing : Lexeme → Seen → Before Seen
Seeing j s = Then Set (λ x. Nothing (s.0 ++ x ∷ [], earlier s.1 (Some j.place)))

abbrev SeeingPlain : Lexeme → Seen → Rule Seen
SeeingPlain j s = ThenPlain IsSet (λ x. NoToken (s.0 ++ x ∷ [], earlier s.1 (Some j.place)))

abbrev seeing : Lexeme → Seen → List Lexeme → Read Seen
seeing j s = then set_at (λ x. nothing (s.0 ++ x ∷ [], earlier s.1 (Some j.place)))

-- ---- it reads as the chain of sets does

abbrev with_place : Option Place → Read (List Arg) → Read Seen
with_place p read = read >>= λ s. Ok ((s.0, p), s.1)

abbrev seen_too : List Arg → Place → Arg × List Lexeme → Read Seen
seen_too so_far q x = Ok ((so_far ++ x.0 ∷ [], Some q), x.1)

abbrev set_too : List Arg → Arg × List Lexeme → Read (List Arg)
set_too so_far x = Ok (so_far ++ x.0 ∷ [], x.1)

seeing_on : (q : Place) (j : Lexeme) (so_far : List Arg) (c : ℕ) (read : Read Arg)
    → ((more : List Arg) (ls : List Lexeme) → chain Above seeing c (more, Some q) ls ≡ with_place (Some q) (chain Above set_link c more ls))
    → ((read >>= seen_too so_far q) >>= λ p. chain Above seeing c p.0 p.1)
    ≡ with_place (Some q) ((read >>= set_too so_far) >>= λ p. chain Above set_link c p.0 p.1)
seeing_on q j so_far c (Err e) same = refl
seeing_on q j so_far c (Ok x) same = same (so_far ++ x.0 ∷ []) x.1

seeing-later : (q : Place) (c : ℕ) (so_far : List Arg) (ls : List Lexeme) → chain Above seeing c (so_far, Some q) ls ≡ with_place (Some q) (chain Above set_link c so_far ls)
unfolding chain
seeing-later q zero so_far ls = refl
seeing-later q (suc c) so_far ls = by (past Above ls)
    (λ j rest. seeing_on q j so_far c (set_at rest) (λ more ms. seeing-later q c more ms))
  where
    by : (o : Option (Lexeme × List Lexeme))
        → ((j : Lexeme) (rest : List Lexeme)
        → (seeing j (so_far, Some q) rest >>= λ p. chain Above seeing c p.0 p.1) ≡ with_place (Some q) (set_link j so_far rest >>= λ p. chain Above set_link c p.0 p.1))
        → either o (λ l rest. seeing l (so_far, Some q) rest >>= λ p. chain Above seeing c p.0 p.1) (Ok ((so_far, Some q), ls))
        ≡ with_place (Some q) (either o (λ l rest. set_link l so_far rest >>= λ p. chain Above set_link c p.0 p.1) (Ok (so_far, ls)))
    by None on = refl
    by (Some p) on = on p.0 p.1

seeing-all : (so_far : List Arg) (ls : List Lexeme) → repeat Above seeing (so_far, None) ls ≡ with_place (above_at ls) (chain Above set_link (length ls) so_far ls)
unfolding chain
seeing-all so_far [] = refl
seeing-all so_far (l ∷ ls) = by (is_or_isnt Above l)
  where
    by : Is Above l ⊎ Isnt Above l → repeat Above seeing (so_far, None) (l ∷ ls) ≡ with_place (above_at (l ∷ ls)) (chain Above set_link (length (l ∷ ls)) so_far (l ∷ ls))
    by (inl i) = rw (past-is Above l ls i) (seeing_on l.place l so_far (length ls) (set_at ls) (λ more ms. seeing-later l.place (length ls) more ms))
    by (inr i) = rw (past-isnt Above l ls i) refl

-- ---- a call of sets

abbrev pub call_of : SetCall → Seen → RawCall
call_of word s = record { word = Of word; args = s.0; above = s.1 }

abbrev pub Close : SetCall → Seen → Before RawCall
Close word s = Then (Token RoundClose) (λ t. Nothing (call_of word s))

abbrev ClosePlain : SetCall → Seen → Rule RawCall
ClosePlain word s = ThenPlain (OneToken RoundClose) (λ t. NoToken (call_of word s))

abbrev close : SetCall → Seen → List Lexeme → Read RawCall
close word s ls = after RoundClose ls >>= λ rest. Ok (call_of word s, rest)

abbrev pub SetsInside : SetCall → Before RawCall
SetsInside word = Then Set (λ x. Then (Chained Above Seeing (x ∷ [], None)) (λ s. Close word s))

abbrev pub SetsCall : SetCall → Before RawCall
SetsCall word = Then (Token RoundOpen) (λ t. SetsInside word)

-- more sets behind those so far
abbrev pub ExtendsSets : Seen → Rule Seen
ExtendsSets s t ls = (xs : List Arg) × (t ≡ (s.0 ++ xs, earlier s.1 (front_place ls))) × IsMore Above IsSet xs ls

linked-Extends : {s t : Seen} {ls : List Lexeme} → Linked Above SeeingPlain s t ls → ExtendsSets s t ls
linked-Extends (Linked.none {x = s}) = ([], pair_same (sym (append-nil s.0)) (sym (earlier-none s.1)), IsMore.none)
linked-Extends (Linked.more {x = s} {z = t} {j = j} {ks = ks} {ls = ls} i l others) =
    let rest = linked-Extends others in
    let whole : ks ≡ l.1 = l.3 ∙ ap (λ z. l.1 ++ z) l.5.1 ∙ append-nil l.1 in
    let moved : t ≡ ((s.0 ++ l.0 ∷ []) ++ rest.0, earlier (earlier s.1 (Some j.place)) (front_place ls)) = rest.1 ∙ ap (λ (z : Seen). (z.0 ++ rest.0, earlier z.1 (front_place ls))) l.5.0 in
    (l.0 ∷ rest.0, moved ∙ pair_same (append_assoc s.0 (l.0 ∷ []) rest.0) (earlier-some s.1 j.place (front_place ls)), IsMore.more i (subst (IsSet l.0) (sym whole) l.4) rest.2)

pub more_exact : (r : Room) (s : Seen) → Exact r (Chained Above Seeing s) (ExtendsSets s) (λ n. repeat Above seeing s)
more_exact r s = exact_in_words r (Chained Above Seeing s) (Linked Above SeeingPlain s) (ExtendsSets s) (λ n. repeat Above seeing s) (λ t ls l. linked-Extends l)
    (repeated r Above Seeing SeeingPlain (λ j s n. seeing j s) (r.passes Above (refl, refl)) refl
    (λ j s. in_turn r Set IsSet (λ x. Nothing (s.0 ++ x ∷ [], earlier s.1 (Some j.place))) (λ x. NoToken (s.0 ++ x ∷ [], earlier s.1 (Some j.place)))
    (λ n. set_at) (λ x n. nothing (s.0 ++ x ∷ [], earlier s.1 (Some j.place))) (set_exact r) (λ x. no_token r (s.0 ++ x ∷ [], earlier s.1 (Some j.place)))) s)

abbrev InsidePlain : SetCall → Rule RawCall
InsidePlain word = ThenPlain IsSet (λ x. ThenPlain (ExtendsSets (x ∷ [], None)) (λ s. ClosePlain word s))

abbrev pub SetsPlain : SetCall → Rule RawCall
SetsPlain word = ThenPlain (OneToken RoundOpen) (λ t. InsidePlain word)

abbrev inside_seen : SetCall → List Lexeme → Read RawCall
inside_seen word = then set_at (λ x. then (repeat Above seeing (x ∷ [], None)) (λ s. close word s))

seen_exact : (r : Room) → Passes r RoundOpen → Passes r RoundClose → (word : SetCall) → Exact r (SetsCall word) (SetsPlain word) (λ n ls. after RoundOpen ls >>= inside_seen word)
seen_exact r opens closes word =
    behind r RoundOpen (SetsInside word) (InsidePlain word) (λ n. inside_seen word) opens refl
    (in_turn r Set IsSet (λ x. Then (Chained Above Seeing (x ∷ [], None)) (λ s. Close word s)) (λ x. ThenPlain (ExtendsSets (x ∷ [], None)) (λ s. ClosePlain word s))
    (λ n. set_at) (λ x n. then (repeat Above seeing (x ∷ [], None)) (λ s. close word s)) (set_exact r)
    (λ x. in_turn r (Chained Above Seeing (x ∷ [], None)) (ExtendsSets (x ∷ [], None)) (λ s. Close word s) (λ s. ClosePlain word s)
    (λ n. repeat Above seeing (x ∷ [], None)) (λ s n. close word s) (more_exact r (x ∷ [], None))
    (λ s. behind r RoundClose (Nothing (call_of word s)) (NoToken (call_of word s)) (λ n. nothing (call_of word s)) closes refl (no_token r (call_of word s)))))

placed_later : (word : SetCall) (p : Option Place) (read : Read (List Arg)) → (with_place p read >>= λ s. close word s.0 s.1) ≡ (read >>= λ s. close word (s.0, p) s.1)
placed_later word p (Ok s) = refl
placed_later word p (Err e) = refl

same_sets : (word : SetCall) (ls : List Lexeme) → (after RoundOpen ls >>= inside_seen word) ≡ sets_call word ls
unfolding sets_call
same_sets word ls =
    ap (λ (k : Arg × List Lexeme → Read RawCall). after RoundOpen ls >>= λ inside. set_at inside >>= k)
    (fun_ext (λ x. ap (λ z. z >>= λ s. close word s.0 s.1) (seeing-all (x.0 ∷ []) x.1) ∙ placed_later word (above_at x.1) (chain Above set_link (length x.1) (x.0 ∷ []) x.1)))

pub sets_exact : (r : Room) → Passes r RoundOpen → Passes r RoundClose → (word : SetCall) → Exact r (SetsCall word) (SetsPlain word) (λ n. sets_call word)
sets_exact r opens closes word =
    exact_same r (SetsCall word) (SetsPlain word) (λ n ls. after RoundOpen ls >>= inside_seen word) (λ n. sets_call word) (λ n. same_sets word) (seen_exact r opens closes word)

pub sets_words : (word : SetCall) (x : RawCall) (ls : List Lexeme) → SetsPlain word x ls → (w : Lexeme) → Is (Call (Of word)) w → IsCall x (w ∷ ls)
sets_words word x ls p w i =
    let o = behind_words RoundOpen (InsidePlain word) x ls p in
    let a = o.3 in
    let m = a.5 in
    let c = closed_words RoundClose (call_of word m.0) x m.2 m.5 in
    let whole : ls ≡ o.0 ∷ a.1 ++ m.1 ++ c.0 ∷ [] =
    o.4 ∙ ap (λ z. o.0 ∷ z) (a.3 ∙ ap (λ z. a.1 ++ z) (m.3 ∙ ap (λ z. m.1 ++ z) c.3) ∙ sym (append_assoc a.1 m.1 (c.0 ∷ []))) in
    subst (λ z. IsCall z (w ∷ ls)) (sym (c.2 ∙ ap (call_of word) m.4.1))
    (subst (λ z. IsCall (call_of word (a.0 ∷ m.4.0, front_place m.1)) (w ∷ z)) (sym whole) (IsCall.sets i o.2 a.4 m.4.2 c.1))

no_comma : (l : Lexeme) → Isnt Comma l → {xs : List Arg} {ls : List Lexeme} → IsMore Above IsSet xs ls → Isnt Comma (head ls l)
no_comma l over m = good_head Above IsSet (Isnt Comma) (λ j i. is_other Above Comma j i refl) l over m

links_of : (l : Lexeme) → Isnt Comma l → {xs : List Arg} {ls : List Lexeme} → IsMore Above IsSet xs ls → (s : Seen) → Links Above Seeing l s (s.0 ++ xs, earlier s.1 (front_place ls)) ls
links_of l over IsMore.none s = subst (λ z. Links Above Seeing l s z []) (pair_same (sym (append-nil s.0)) (sym (earlier-none s.1))) Links.none
links_of l over (IsMore.more {j = j} {x = x} {xs = xs} {ts = ts} {us = us} i o m) s =
    let next : Seen = (s.0 ++ x ∷ [], earlier s.1 (Some j.place)) in
    let here : Seeing j s next ts (head us l) = (x, ts, [], sym (append-nil ts), set_of (head us l) (no_comma l over m) o, (refl, refl)) in
    subst (λ z. Links Above Seeing l s z (j ∷ ts ++ us)) (pair_same (append_assoc s.0 (x ∷ []) xs) (earlier-some s.1 j.place (front_place us)))
    (Links.more i here (links_of l over m next))

pub sets_of : (word : SetCall) {o c : Lexeme} {x : Arg} {xs : List Arg} {ts us : List Lexeme} (l : Lexeme) → Is RoundOpen o → IsSet x ts → IsMore Above IsSet xs us → Is RoundClose c
    → SetsCall word (call_of word (x ∷ xs, front_place us)) (o ∷ ts ++ us ++ c ∷ []) l
sets_of word {o} {c} {x} {xs} {ts} {us} l i a m k =
    let all = call_of word (x ∷ xs, front_place us) in
    let over = is_other RoundClose Comma c k refl in
    let first : Isnt Comma (head (us ++ c ∷ []) l) = subst (Isnt Comma) (sym (head-append us (c ∷ []) l)) (no_comma c over m) in
    behind_of RoundOpen (SetsInside word) all o (ts ++ us ++ c ∷ []) l i (
      x,
      ts,
      us ++ c ∷ [],
      append_assoc ts us (c ∷ []),
      set_of (head (us ++ c ∷ []) l) first a,
      ((x ∷ xs, front_place us), us, c ∷ [], refl, (links_of c over m (x ∷ [], None), is_other RoundClose Above c k refl), closed_of RoundClose all c l k),
    )
