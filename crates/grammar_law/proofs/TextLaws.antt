-- The laws of texts.
use Rattle.std.proofs.Common.{◌≡◌, ℕ, ◌+◌, ◌≤◌, inl, inr, List, [], ◌∷◌, ◌++◌, length, map, None, Result, Ok, Err, refl, sym, ap, ◌∙◌, subst, append_assoc, arith, le_refl}
use Rattle.net_base.specs.declared.place.Place.{Place}
use Rattle.policy_tokens.specs.declared.fault.PolicyFault.{PolicyFault}
use Rattle.policy_tokens.specs.declared.fault.PolicyFault.TheVariants.{Syntax}
use Rattle.policy_tokens.specs.declared.token.Token.{Token}
use Rattle.policy_grammar.specs.declared.lexeme.Lexeme.{Lexeme}
use Rattle.policy_grammar.specs.declared.symbol.Symbol.TheVariants.{EndOfText}
use Rattle.policy_grammar.specs.Raw.{Item}
use Rattle.policy_grammar.proofs.Symbols.{symbol_of-inner}
use Rattle.policy_grammar.specs.Lexemes.{slice_of, lexeme_of, end_of, lexemes_of}
use Rattle.policy_grammar.specs.Deep.{first_deep}
use Rattle.policy_grammar.specs.Items.{items_of}
use Rattle.net_base.proofs.StepLemmas.{ok_same, ok_not_err}
use Rattle.grammar_law.specs.Grammar.{Is, IsPolicy}
use Rattle.grammar_law.specs.Fronts.{IsText, IsFront, FirstWrong}
use Rattle.grammar_law.proofs.Lookups.{Isnt, not_both, a_token, a_token-is}
use Rattle.grammar_law.proofs.Readers.{Ended}
use Rattle.grammar_law.proofs.Nesting.{brackets, room_for, room_where_shallow}
use Rattle.grammar_law.proofs.Policies.{items_up, same_items, reads_policy, policy_was_read, policy_stops}

-- ---- no token stands for the end of the text

abbrev NoEnd : List Lexeme → Type 0
NoEnd [] = Unit {0}
NoEnd (l ∷ ls) = Isnt EndOfText l × NoEnd ls

tokens-NoEnd : (bytes : List ℕ) (tokens : List Token) → NoEnd (map (lexeme_of bytes) tokens)
tokens-NoEnd bytes [] = tt
tokens-NoEnd bytes (t ∷ ts) = (symbol_of-inner t.kind (slice_of bytes t.from t.to), tokens-NoEnd bytes ts)

only_end : (ts front rest : List Lexeme) (e d : Lexeme) → NoEnd ts → ts ++ e ∷ [] ≡ front ++ d ∷ rest → Is EndOfText d → ts ≡ front
only_end [] [] rest e d none h i = refl
only_end [] (f ∷ []) rest e d none h i = absurd cc
only_end [] (f ∷ g ∷ fs) rest e d none h i = absurd cc
only_end (t ∷ ts) [] rest e d none h i = let same : t ≡ d = cc in absurd (not_both EndOfText d i (subst (Isnt EndOfText) same none.0))
only_end (t ∷ ts) (f ∷ fs) rest e d none h i =
    let same : t ≡ f = cc in
    let others : ts ++ e ∷ [] ≡ fs ++ d ∷ rest = cc in
    ap (λ z. z ∷ ts) same ∙ ap (λ z. f ∷ z) (only_end ts fs rest e d none.1 others i)

end_is : (place : Place) → Is EndOfText (end_of place)
end_is place = record { symbol = refl }

ended : (ts : List Lexeme) (place : Place) → Ended (ts ++ end_of place ∷ [])
ended [] place = inl (end_is place)
ended (t ∷ ts) place = inr (ended ts place)

items_of-up : (ls : List Lexeme) (r : Result (List Item) PolicyFault) → items_of ls ≡ r → items_up 64 (length ls) [] ls ≡ r
items_of-up ls r h = same_items (length ls) [] ls ∙ h

-- ---- the laws

pub read-policy : (bytes : List ℕ) (tokens : List Token) (end : Place) (items : List Item) → items_of (lexemes_of bytes tokens end) ≡ Ok items → IsPolicy items (map (lexeme_of bytes) tokens)
read-policy bytes tokens end items h =
    let ts = map (lexeme_of bytes) tokens in
    let ls = lexemes_of bytes tokens end in
    let r = policy_was_read 64 (length ls) [] ls items (ended ts end) (items_of-up ls (Ok items) h) in
    let same = only_end ts r.front r.rest (end_of end) r.end (tokens-NoEnd bytes tokens) r.all r.ends in
    subst (λ z. IsPolicy z ts) (sym r.given) (subst (IsPolicy r.items) (sym same) r.policy)

-- a policy and an end are read with room enough
read_with : (m : ℕ) (end : Lexeme) → Is EndOfText end → (items : List Item) (ts : List Lexeme) → IsPolicy items ts → brackets.Fits m ts
    → items_up m (length (ts ++ end ∷ [])) [] (ts ++ end ∷ []) ≡ Ok items
read_with m end i items ts p fits = reads_policy m end [] i p fits (length (ts ++ end ∷ [])) [] (le_refl (length (ts ++ end ∷ [])))

pub policy-read : (bytes : List ℕ) (tokens : List Token) (end : Place) (items : List Item) → IsPolicy items (map (lexeme_of bytes) tokens) → first_deep 0 (lexemes_of bytes tokens end) ≡ None
    → items_of (lexemes_of bytes tokens end) ≡ Ok items
policy-read bytes tokens end items p shallow =
    let ts = map (lexeme_of bytes) tokens in
    let ls = lexemes_of bytes tokens end in
    sym (same_items (length ls) [] ls) ∙ read_with 64 (end_of end) (end_is end) items ts p (brackets.front 64 ts (end_of end ∷ []) (room_where_shallow ls shallow))

pub one_policy : (ls : List Lexeme) (items others : List Item) → IsPolicy items ls → IsPolicy others ls → items ≡ others
one_policy ls items others p q =
    let room = room_for (length ls) ls (le_refl (length ls)) in
    let read = λ (xs : List Item) (is : IsPolicy xs ls). read_with (length ls) (a_token EndOfText) (a_token-is EndOfText) xs ls is room in
    ok_same {F = PolicyFault} items others (sym (read items p) ∙ read others q)

-- the parts of a whole text
text_parts : {items : List Item} {ls : List Lexeme} → IsText items ls → (ts : List Lexeme) × (end : Lexeme) × IsPolicy items ts × Is EndOfText end × (ls ≡ ts ++ end ∷ [])
text_parts (IsText.text {ts = ts} {end = end} p i) = (ts, end, p, i, refl)

-- where it always stops, no text goes on
never_goes_on : (front : List Lexeme) (here : Lexeme) (e : PolicyFault)
    → ((n c : ℕ) (other : List Lexeme) → 64 ≤ n → length (front ++ here ∷ other) ≤ c → items_up n c [] (front ++ here ∷ other) ≡ Err e)
    → IsFront (front ++ here ∷ []) → ⊥
never_goes_on front here e always is =
    let t = text_parts is.2 in
    let n = 64 + length t.0 in
    let whole : front ++ here ∷ is.1 ≡ t.0 ++ t.1 ∷ [] = sym (append_assoc front (here ∷ []) is.1) ∙ t.4 in
    let read = read_with n t.1 t.3 is.0 t.0 t.2 (room_for n t.0 (omega arith)) in
    let stuck = always n (length (t.0 ++ t.1 ∷ [])) is.1 (omega arith) (omega (arith, ap length whole)) in
    ok_not_err {A = List Item} is.0 e (sym read ∙ ap (items_up n (length (t.0 ++ t.1 ∷ [])) []) (sym whole) ∙ stuck)

front_of : (ls back : List Lexeme) (items : List Item) → IsPolicy items (ls ++ back) → IsFront ls
front_of ls back items p = (items, back ++ a_token EndOfText ∷ [], subst (IsText items) (append_assoc ls back (a_token EndOfText ∷ [])) (IsText.text p (a_token-is EndOfText)))

pub fault-first_wrong : (bytes : List ℕ) (tokens : List Token) (end : Place) (e : PolicyFault) → first_deep 0 (lexemes_of bytes tokens end) ≡ None
    → items_of (lexemes_of bytes tokens end) ≡ Err e → (place : Place) × (e ≡ Syntax place) × FirstWrong (lexemes_of bytes tokens end) place
fault-first_wrong bytes tokens end e shallow h =
    let ls = lexemes_of bytes tokens end in
    let s = policy_stops 64 (length ls) [] ls e (le_refl (length ls)) (ended (map (lexeme_of bytes) tokens) end) (room_where_shallow ls shallow) (items_of-up ls (Err e) h) in
    (s.here.place, s.fault, (s.front, s.rest, s.here, s.all, front_of s.front s.back s.items s.policy, never_goes_on s.front s.here e s.always, refl))

-- ---- the first wrong token is one

first_same : (P : List Lexeme → Type 0) → ((a b : List Lexeme) → P (a ++ b) → P a) → (front other rest more : List Lexeme) (w v : Lexeme) → front ++ w ∷ rest ≡ other ++ v ∷ more
    → P front → (P (front ++ w ∷ []) → ⊥) → P other → (P (other ++ v ∷ []) → ⊥) → w ≡ v
first_same P closed [] [] rest more w v e p np q nq = cc
first_same P closed [] (o ∷ os) rest more w v e p np q nq = let same : o ≡ w = cc in absurd (np (subst (λ z. P (z ∷ [])) same (closed (o ∷ []) os q)))
first_same P closed (f ∷ fs) [] rest more w v e p np q nq = let same : f ≡ v = cc in absurd (nq (subst (λ z. P (z ∷ [])) same (closed (f ∷ []) fs p)))
first_same P closed (f ∷ fs) (o ∷ os) rest more w v e p np q nq =
    let same : o ≡ f = cc in
    let others : fs ++ w ∷ rest ≡ os ++ v ∷ more = cc in
    first_same (λ z. P (f ∷ z)) (λ a b. closed (f ∷ a) b) fs os rest more w v others p np (subst (λ z. P (z ∷ os)) same q) (λ h. nq (subst (λ z. P (z ∷ (os ++ v ∷ []))) (sym same) h))

front_closed : (a b : List Lexeme) → IsFront (a ++ b) → IsFront a
front_closed a b is = (is.0, b ++ is.1, subst (IsText is.0) (append_assoc a b is.1) is.2)

pub first_wrong-fault : (bytes : List ℕ) (tokens : List Token) (end place : Place) → first_deep 0 (lexemes_of bytes tokens end) ≡ None → FirstWrong (lexemes_of bytes tokens end) place
    → items_of (lexemes_of bytes tokens end) ≡ Err (Syntax place)
first_wrong-fault bytes tokens end place shallow wrong = by (items_of (lexemes_of bytes tokens end)) refl
  where
    ls : List Lexeme
    ls = lexemes_of bytes tokens end

    by : (r : Result (List Item) PolicyFault) → items_of ls ≡ r → items_of ls ≡ Err (Syntax place)
    by (Ok items) is =
        let text : IsText items ls = IsText.text (read-policy bytes tokens end items is) (end_is end) in
        let whole : ls ≡ (wrong.0 ++ wrong.2 ∷ []) ++ wrong.1 = wrong.3 ∙ sym (append_assoc wrong.0 (wrong.2 ∷ []) wrong.1) in
        absurd (wrong.5 (items, wrong.1, subst (IsText items) whole text))
    by (Err e) is =
        let s = fault-first_wrong bytes tokens end e shallow is in
        let t = s.2 in
        let same = first_same IsFront front_closed t.0 wrong.0 t.1 wrong.1 t.2 wrong.2 (sym t.3 ∙ wrong.3) t.4 t.5 wrong.4 wrong.5 in
        is ∙ ap Err s.1 ∙ ap (λ z. Err (Syntax z)) (sym t.6 ∙ ap (λ (l : Lexeme). l.place) same ∙ wrong.6)
