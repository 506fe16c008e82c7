-- What reads names and sets.
use Rattle.std.proofs.Common.{◌≡◌, inl, inr, List, [], ◌∷◌, ◌++◌, Option, Some, None, Ok, refl, sym, ap, ◌∙◌, subst, append-nil}
use Rattle.policy_grammar.specs.declared.lexeme.Lexeme.{Lexeme}
use Rattle.policy_grammar.specs.declared.symbol.Symbol.{Symbol}
use Rattle.policy_grammar.specs.declared.symbol.Symbol.TheVariants.{Call, Name, Comma, BraceOpen, BraceClose}
use Rattle.policy_words.specs.declared.word.CallWord.TheVariants.{Any}
use Rattle.policy_grammar.specs.Raw.{Arg, Arg as arg}
use Rattle.policy_grammar.specs.Reading.{Read, refused, past, first_of, after, either}
use Rattle.policy_grammar.specs.Names.{names_at, braced_at}
use Rattle.policy_grammar.specs.Calls.{set_at, one_at}
use Rattle.net_base.specs.Steps.{◌>>=◌, or_fault}
use Rattle.grammar_law.specs.Grammar.{Is, Rule, IsList, IsName, IsNames, IsGroup, IsSet, IsOne}
use Rattle.grammar_law.proofs.Lookups.{Isnt, is_other}
use Rattle.grammar_law.proofs.Readers.{Before, head, Room, Exact}
use Rattle.grammar_law.proofs.Tokens.{Token, OneToken, token, Nothing, NoToken, nothing, no_token}
use Rattle.grammar_law.proofs.Sequences.{Then, ThenPlain, then, in_turn}
use Rattle.grammar_law.proofs.Choices.{Choose, ChoosePlain, choose, behind, one_of, exact_same}
use Rattle.grammar_law.proofs.Lists.{exact_in_words, Listed, listed_of, list_read}

-- ---- one token and the rest

pub behind_words : {A : Type 0} (s : Symbol) (D : Rule A) (x : A) (ls : List Lexeme) → ThenPlain (OneToken s) (λ t. D) x ls
    → (t : Lexeme) × (rest : List Lexeme) × Is s t × D x rest × (ls ≡ t ∷ rest)
behind_words s D x ls p = (p.0, p.2, p.4.1, p.5, p.3 ∙ ap (λ z. z ++ p.2) p.4.0)

pub closed_words : {A : Type 0} (s : Symbol) (v x : A) (ls : List Lexeme) → ThenPlain (OneToken s) (λ t. NoToken v) x ls
    → (t : Lexeme) × Is s t × (x ≡ v) × (ls ≡ t ∷ [])
closed_words s v x ls p =
    let b = behind_words s (NoToken v) x ls p in
    (b.0, b.2, b.3.0, b.4 ∙ ap (λ z. b.0 ∷ z) b.3.1)

pub behind_of : {A : Type 0} (s : Symbol) (H : Before A) (x : A) (t : Lexeme) (ls : List Lexeme) (l : Lexeme) → Is s t → H x ls l → Then (Token s) (λ t. H) x (t ∷ ls) l
behind_of s H x t ls l i h = (t, t ∷ [], ls, refl, (refl, i), h)

pub closed_of : {A : Type 0} (s : Symbol) (v : A) (t l : Lexeme) → Is s t → Then (Token s) (λ t. Nothing v) v (t ∷ []) l
closed_of s v t l i = behind_of s (Nothing v) v t [] l i (refl, refl)

-- what was read last
pub last_of : {A B : Type 0} (G : Before A) (v : A → B) (x : A) (ls : List Lexeme) (l : Lexeme) → G x ls l → Then G (λ x. Nothing (v x)) (v x) ls l
last_of G v x ls l g = (x, ls, [], sym (append-nil ls), g, (refl, refl))

pub last_words : {A B : Type 0} (C : Rule A) (v : A → B) (y : B) (ls : List Lexeme) → ThenPlain C (λ x. NoToken (v x)) y ls → (x : A) × (y ≡ v x) × C x ls
last_words C v y ls p = (p.0, p.5.0, subst (C p.0) (sym (p.3 ∙ ap (λ z. p.1 ++ z) p.5.1 ∙ append-nil p.1)) p.4)

-- ---- names

pub named : (r : Room) → Exact r (Token Name) IsName (λ n. first_of Name)
named r = exact_in_words r (Token Name) (OneToken Name) IsName (λ n. first_of Name) words (token r Name (r.passes Name (refl, refl)) refl)
  where
    words : (x : Lexeme) (ls : List Lexeme) → OneToken Name x ls → IsName x ls
    words x ls p = subst (IsName x) (sym p.0) (IsName.name p.1)

abbrev pub Names : Before (List Lexeme)
Names = Listed Comma (Token Name)

pub names_exact : (r : Room) → Exact r Names IsNames (λ n. names_at)
unfolding names_at
names_exact r = list_read r Comma (Token Name) IsName (λ n. first_of Name) (r.passes Comma (refl, refl)) refl (named r)

name_token : (x : Lexeme) (ls : List Lexeme) (l : Lexeme) → IsName x ls → Unit {0} → Token Name x ls l
name_token x ls l (IsName.name i) u = (refl, i)

pub names_of : (l : Lexeme) → Isnt Comma l → {ns ls : List Lexeme} → IsNames ns ls → Names ns ls l
names_of l over is = listed_of Comma IsName (Token Name) (λ k. Unit {0}) name_token (λ j i. tt) l tt over is

pub names_head : (l : Lexeme) {ns ls : List Lexeme} → IsNames ns ls → Is Name (head ls l)
names_head l (IsList.list (IsName.name i) m) = i

-- ---- names in braces

abbrev pub Inside : Before (List Lexeme)
Inside = Then Names (λ ns. Then (Token BraceClose) (λ t. Nothing ns))

abbrev InsidePlain : Rule (List Lexeme)
InsidePlain = ThenPlain IsNames (λ ns. ThenPlain (OneToken BraceClose) (λ t. NoToken ns))

abbrev inside_at : List Lexeme → Read (List Lexeme)
inside_at ls = names_at ls >>= λ names. after BraceClose names.1 >>= λ rest. Ok (names.0, rest)

inside_exact : (r : Room) → Exact r Inside InsidePlain (λ n. inside_at)
inside_exact r =
    in_turn r Names IsNames (λ ns. Then (Token BraceClose) (λ t. Nothing ns)) (λ ns. ThenPlain (OneToken BraceClose) (λ t. NoToken ns))
    (λ n. names_at) (λ ns n ls. after BraceClose ls >>= λ rest. Ok (ns, rest))
    (names_exact r) (λ ns. behind r BraceClose (Nothing ns) (NoToken ns) (λ n. nothing ns) (r.passes BraceClose (refl, refl)) refl (no_token r ns))

inside_words : (ns ls : List Lexeme) → InsidePlain ns ls → (o : Lexeme) → Is BraceOpen o → IsGroup ns (o ∷ ls)
inside_words ns ls p o i =
    let c = closed_words BraceClose p.0 ns p.2 p.5 in
    subst (λ z. IsGroup ns (o ∷ z)) (sym (p.3 ∙ ap (λ z. p.1 ++ z) c.3)) (IsGroup.group i (subst (λ z. IsNames z p.1) (sym c.2) p.4) c.1)

inside_of : {ns ls : List Lexeme} {c : Lexeme} (l : Lexeme) → IsNames ns ls → Is BraceClose c → Inside ns (ls ++ c ∷ []) l
inside_of {ns} {ls} {c} l is i = (ns, ls, c ∷ [], refl, names_of c (is_other BraceClose Comma c i refl) is, closed_of BraceClose ns c l i)

abbrev pub Group : Before (List Lexeme)
Group = Then (Token BraceOpen) (λ t. Inside)

pub group_exact : (r : Room) → Exact r Group IsGroup (λ n. braced_at)
unfolding braced_at
group_exact r = exact_in_words r Group (ThenPlain (OneToken BraceOpen) (λ t. InsidePlain)) IsGroup (λ n. braced_at) words
    (behind r BraceOpen Inside InsidePlain (λ n. inside_at) (r.passes BraceOpen (refl, refl)) refl (inside_exact r))
  where
    words : (ns ls : List Lexeme) → ThenPlain (OneToken BraceOpen) (λ t. InsidePlain) ns ls → IsGroup ns ls
    words ns ls p =
        let b = behind_words BraceOpen InsidePlain ns ls p in
        subst (IsGroup ns) (sym b.4) (inside_words ns b.1 b.3 b.0 b.2)

pub group_of : (l : Lexeme) {ns ls : List Lexeme} → IsGroup ns ls → Group ns ls l
group_of l (IsGroup.group {o = o} {c = c} {names = ns} {ts = ls} i is j) = behind_of BraceOpen Inside ns o (ls ++ c ∷ []) l i (inside_of l is j)

-- ---- sets

abbrev pub Set : Before Arg
Set = Choose (Call Any) (λ t. Nothing arg.Any) (Then Names (λ ns. Nothing (arg.Names ns)))

pub set_exact : (r : Room) → Exact r Set IsSet (λ n. set_at)
unfolding set_at
set_exact r = exact_in_words r Set (ChoosePlain (Call Any) (λ t. NoToken arg.Any) (ThenPlain IsNames (λ ns. NoToken (arg.Names ns)))) IsSet (λ n. set_at) words
    (one_of r (Call Any) (λ t. Nothing arg.Any) (Then Names (λ ns. Nothing (arg.Names ns))) (λ t. NoToken arg.Any) (ThenPlain IsNames (λ ns. NoToken (arg.Names ns)))
    (λ t n. nothing arg.Any) (λ n. then names_at (λ ns. nothing (arg.Names ns))) (r.passes (Call Any) (refl, refl)) refl (λ t. no_token r arg.Any)
    (in_turn r Names IsNames (λ ns. Nothing (arg.Names ns)) (λ ns. NoToken (arg.Names ns)) (λ n. names_at) (λ ns n. nothing (arg.Names ns)) (names_exact r) (λ ns. no_token r (arg.Names ns))))
  where
    words : (x : Arg) (ls : List Lexeme) → ChoosePlain (Call Any) (λ t. NoToken arg.Any) (ThenPlain IsNames (λ ns. NoToken (arg.Names ns))) x ls → IsSet x ls
    words x ls (inl p) = subst (λ z. IsSet z ls) (sym p.4.0) (subst (IsSet arg.Any) (sym (p.2 ∙ ap (λ z. p.0 ∷ z) p.4.1)) (IsSet.any p.3))
    words x ls (inr p) = let b = last_words IsNames arg.Names x ls p in subst (λ z. IsSet z ls) (sym b.1) (IsSet.names b.2)

pub set_of : (l : Lexeme) → Isnt Comma l → {x : Arg} {ls : List Lexeme} → IsSet x ls → Set x ls l
set_of l over (IsSet.any {l = k} i) = inl (k, [], refl, i, (refl, refl))
set_of l over (IsSet.names {ns = ns} {ts = ls} is) = inr (last_of Names arg.Names ns ls l (names_of l over is), is_other Name (Call Any) (head ls l) (names_head l is) refl)

-- ---- places of a path

abbrev pub OneSet : Before Arg
OneSet = Choose (Call Any) (λ t. Nothing arg.Any) (Choose BraceOpen (λ t. Then Inside (λ ns. Nothing (arg.Names ns))) (Then (Token Name) (λ n. Nothing (arg.Names (n ∷ [])))))

abbrev PlacePlain : Rule Arg
PlacePlain = ChoosePlain (Call Any) (λ t. NoToken arg.Any) (ChoosePlain BraceOpen (λ t. ThenPlain InsidePlain (λ ns. NoToken (arg.Names ns))) (ThenPlain IsName (λ n. NoToken (arg.Names (n ∷ [])))))

abbrev place_at : List Lexeme → Read Arg
place_at = choose (Call Any) (λ t. nothing arg.Any) (choose BraceOpen (λ t. then inside_at (λ ns. nothing (arg.Names ns))) (then (first_of Name) (λ n. nothing (arg.Names (n ∷ [])))))

same_braces : (ls : List Lexeme) (o : Option (Lexeme × List Lexeme)) (other : Read Arg) → past BraceOpen ls ≡ o
    → either o (λ l rest. inside_at rest >>= λ x. Ok (arg.Names x.0, x.1)) other ≡ either o (λ l rest. braced_at ls >>= λ x. Ok (arg.Names x.0, x.1)) other
unfolding braced_at
same_braces ls None other is = refl
same_braces ls (Some p) other is = ap (λ o. ((or_fault (refused ls) o >>= λ x. Ok x.1) >>= inside_at) >>= λ x. Ok (arg.Names x.0, x.1)) (sym is)

same_place : (ls : List Lexeme) → place_at ls ≡ one_at ls
unfolding one_at
same_place ls = ap (λ z. either (past (Call Any) ls) (λ l rest. Ok (arg.Any, rest)) z) (same_braces ls (past BraceOpen ls) (then (first_of Name) (λ n. nothing (arg.Names (n ∷ []))) ls) refl)

place_exact : (r : Room) → Exact r OneSet PlacePlain (λ n. place_at)
place_exact r =
    one_of r (Call Any) (λ t. Nothing arg.Any) (Choose BraceOpen (λ t. Then Inside (λ ns. Nothing (arg.Names ns))) (Then (Token Name) (λ n. Nothing (arg.Names (n ∷ [])))))
    (λ t. NoToken arg.Any) (ChoosePlain BraceOpen (λ t. ThenPlain InsidePlain (λ ns. NoToken (arg.Names ns))) (ThenPlain IsName (λ n. NoToken (arg.Names (n ∷ [])))))
    (λ t n. nothing arg.Any)
    (λ n. choose BraceOpen (λ t. then inside_at (λ ns. nothing (arg.Names ns))) (then (first_of Name) (λ n. nothing (arg.Names (n ∷ [])))))
    (r.passes (Call Any) (refl, refl)) refl (λ t. no_token r arg.Any)
    (one_of r BraceOpen (λ t. Then Inside (λ ns. Nothing (arg.Names ns))) (Then (Token Name) (λ n. Nothing (arg.Names (n ∷ []))))
    (λ t. ThenPlain InsidePlain (λ ns. NoToken (arg.Names ns))) (ThenPlain IsName (λ n. NoToken (arg.Names (n ∷ []))))
    (λ t n. then inside_at (λ ns. nothing (arg.Names ns))) (λ n. then (first_of Name) (λ n. nothing (arg.Names (n ∷ [])))) (r.passes BraceOpen (refl, refl)) refl
    (λ t. in_turn r Inside InsidePlain (λ ns. Nothing (arg.Names ns)) (λ ns. NoToken (arg.Names ns)) (λ n. inside_at) (λ ns n. nothing (arg.Names ns))
    (inside_exact r) (λ ns. no_token r (arg.Names ns)))
    (in_turn r (Token Name) IsName (λ n. Nothing (arg.Names (n ∷ []))) (λ n. NoToken (arg.Names (n ∷ []))) (λ n. first_of Name)
    (λ x n. nothing (arg.Names (x ∷ []))) (named r) (λ n. no_token r (arg.Names (n ∷ [])))))

place_words : (x : Arg) (ls : List Lexeme) → PlacePlain x ls → IsOne x ls
place_words x ls (inl p) = subst (λ z. IsOne z ls) (sym p.4.0) (subst (IsOne arg.Any) (sym (p.2 ∙ ap (λ z. p.0 ∷ z) p.4.1)) (IsOne.any p.3))
place_words x ls (inr (inl p)) =
    let b = last_words InsidePlain arg.Names x p.1 p.4 in
    subst (λ z. IsOne z ls) (sym b.1) (IsOne.group (subst (IsGroup b.0) (sym p.2) (inside_words b.0 p.1 b.2 p.0 p.3)))
place_words x ls (inr (inr p)) =
    let b = last_words IsName (λ n. arg.Names (n ∷ [])) x ls p in
    subst (λ z. IsOne z ls) (sym b.1) (IsOne.name b.2)

pub one_exact : (r : Room) → Exact r OneSet IsOne (λ n. one_at)
one_exact r = exact_in_words r OneSet PlacePlain IsOne (λ n. one_at) place_words (exact_same r OneSet PlacePlain (λ n. place_at) (λ n. one_at) (λ n. same_place) (place_exact r))

pub place_of : (l : Lexeme) {x : Arg} {ls : List Lexeme} → IsOne x ls → OneSet x ls l
place_of l (IsOne.any {l = k} i) = inl (k, [], refl, i, (refl, refl))
place_of l (IsOne.group (IsGroup.group {o = o} {c = c} {names = ns} {ts = ls} i is j)) =
    inr (inl (o, ls ++ c ∷ [], refl, i, last_of Inside arg.Names ns (ls ++ c ∷ []) l (inside_of l is j)), is_other BraceOpen (Call Any) o i refl)
place_of l (IsOne.name (IsName.name {n = n} i)) =
    inr (inr (last_of (Token Name) (λ n. arg.Names (n ∷ [])) n (n ∷ []) l (refl, i), is_other Name BraceOpen n i refl), is_other Name (Call Any) n i refl)
