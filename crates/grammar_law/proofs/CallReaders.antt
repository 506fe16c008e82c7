-- What reads a call.
use Rattle.std.proofs.Common.{◌≡◌, ℕ, List, [], ◌∷◌, ◌++◌, None, Ok, refl, sym, ap, ◌∙◌, subst, append_assoc}
use Rattle.policy_grammar.specs.declared.lexeme.Lexeme.{Lexeme}
use Rattle.policy_grammar.specs.declared.symbol.Symbol.TheVariants as symbol
use Rattle.policy_grammar.specs.Raw.{Arg, RawCall}
use Rattle.policy_words.specs.declared.word.CallWord.{CallWord}
use Rattle.policy_words.specs.declared.word.CallWord.TheVariants.{Any, Drop, Internal, Link, Path, Of}
use Rattle.policy_grammar.specs.Reading.{Read, after}
use Rattle.policy_grammar.specs.Calls.{one_at, link_call, path_call, call_behind}
use Rattle.net_base.specs.Steps.{◌>>=◌}
use Rattle.grammar_law.specs.Grammar.{Is, Rule, IsMore, IsOne, IsCall}
use Rattle.grammar_law.proofs.Lookups.{is_other}
use Rattle.grammar_law.proofs.Readers.{Before, head, four_parts, Room, Passes, Exact}
use Rattle.grammar_law.proofs.Tokens.{Token, OneToken, Nothing, NoToken, nothing, no_token}
use Rattle.grammar_law.proofs.Sequences.{Then, ThenPlain, then, in_turn}
use Rattle.grammar_law.proofs.Choices.{behind}
use Rattle.grammar_law.proofs.Lists.{Many, many, Extends, more_read, many_of}
use Rattle.grammar_law.proofs.NameReaders.{OneSet, place_of, one_exact, closed_words, closed_of, behind_words, behind_of}
use Rattle.grammar_law.proofs.SetsReaders.{SetsCall, SetsPlain, sets_exact}

-- ---- two places

abbrev pub link_of : Arg → Arg → RawCall
link_of a b = record { word = Link; args = a ∷ b ∷ []; above = None }

abbrev pub Closed : RawCall → Before RawCall
Closed x = Then (Token symbol.RoundClose) (λ t. Nothing x)

abbrev ClosedPlain : RawCall → Rule RawCall
ClosedPlain x = ThenPlain (OneToken symbol.RoundClose) (λ t. NoToken x)

abbrev closing : RawCall → List Lexeme → Read RawCall
closing x ls = after symbol.RoundClose ls >>= λ rest. Ok (x, rest)

closing_exact : (r : Room) → Passes r symbol.RoundClose → (x : RawCall) → Exact r (Closed x) (ClosedPlain x) (λ n. closing x)
closing_exact r closes x = behind r symbol.RoundClose (Nothing x) (NoToken x) (λ n. nothing x) closes refl (no_token r x)

abbrev pub LinkCall : Before RawCall
LinkCall = Then (Token symbol.RoundOpen) (λ t. Then OneSet (λ a. Then (Token symbol.Comma) (λ t. Then OneSet (λ b. Closed (link_of a b)))))

abbrev pub LinkPlain : Rule RawCall
LinkPlain = ThenPlain (OneToken symbol.RoundOpen) (λ t. ThenPlain IsOne (λ a. ThenPlain (OneToken symbol.Comma) (λ t. ThenPlain IsOne (λ b. ClosedPlain (link_of a b)))))

link_exact : (r : Room) → Passes r symbol.RoundOpen → Passes r symbol.RoundClose → Exact r LinkCall LinkPlain (λ n. link_call)
unfolding link_call
link_exact r opens closes =
    behind r symbol.RoundOpen (Then OneSet (λ a. Then (Token symbol.Comma) (λ t. Then OneSet (λ b. Closed (link_of a b)))))
    (ThenPlain IsOne (λ a. ThenPlain (OneToken symbol.Comma) (λ t. ThenPlain IsOne (λ b. ClosedPlain (link_of a b)))))
    (λ n. then one_at (λ a ls. after symbol.Comma ls >>= then one_at (λ b. closing (link_of a b)))) opens refl
    (in_turn r OneSet IsOne (λ a. Then (Token symbol.Comma) (λ t. Then OneSet (λ b. Closed (link_of a b))))
    (λ a. ThenPlain (OneToken symbol.Comma) (λ t. ThenPlain IsOne (λ b. ClosedPlain (link_of a b))))
    (λ n. one_at) (λ a n ls. after symbol.Comma ls >>= then one_at (λ b. closing (link_of a b))) (one_exact r)
    (λ a. behind r symbol.Comma (Then OneSet (λ b. Closed (link_of a b))) (ThenPlain IsOne (λ b. ClosedPlain (link_of a b)))
    (λ n. then one_at (λ b. closing (link_of a b))) (r.passes symbol.Comma (refl, refl)) refl
    (in_turn r OneSet IsOne (λ b. Closed (link_of a b)) (λ b. ClosedPlain (link_of a b)) (λ n. one_at) (λ b n. closing (link_of a b)) (one_exact r) (λ b. closing_exact r closes (link_of a b)))))

pub link_words : (x : RawCall) (ls : List Lexeme) → LinkPlain x ls → (w : Lexeme) → Is (symbol.Call Link) w → IsCall x (w ∷ ls)
link_words x ls p w i =
    let o = behind_words symbol.RoundOpen (ThenPlain IsOne (λ a. ThenPlain (OneToken symbol.Comma) (λ t. ThenPlain IsOne (λ b. ClosedPlain (link_of a b))))) x ls p in
    let a = o.3 in
    let m = behind_words symbol.Comma (ThenPlain IsOne (λ b. ClosedPlain (link_of a.0 b))) x a.2 a.5 in
    let b = m.3 in
    let c = closed_words symbol.RoundClose (link_of a.0 b.0) x b.2 b.5 in
    let whole : ls ≡ o.0 ∷ a.1 ++ m.0 ∷ b.1 ++ c.0 ∷ [] =
    o.4 ∙ ap (λ z. o.0 ∷ z) (a.3 ∙ ap (λ z. a.1 ++ z) (m.4 ∙ ap (λ z. m.0 ∷ z) (b.3 ∙ ap (λ z. b.1 ++ z) c.3)) ∙ sym (append_assoc a.1 (m.0 ∷ b.1) (c.0 ∷ []))) in
    subst (λ z. IsCall z (w ∷ ls)) (sym c.2) (subst (λ z. IsCall (link_of a.0 b.0) (w ∷ z)) (sym whole) (IsCall.link i o.2 a.4 m.2 b.4 c.1))

pub link_call_of : {o m c : Lexeme} {x y : Arg} {ts us : List Lexeme} (l : Lexeme) → Is symbol.RoundOpen o → IsOne x ts → Is symbol.Comma m → IsOne y us → Is symbol.RoundClose c
    → LinkCall (link_of x y) (o ∷ ts ++ m ∷ us ++ c ∷ []) l
link_call_of {o} {m} {c} {x} {y} {ts} {us} l i a j b k =
    behind_of symbol.RoundOpen (Then OneSet (λ a. Then (Token symbol.Comma) (λ t. Then OneSet (λ b. Closed (link_of a b))))) (link_of x y) o (ts ++ m ∷ us ++ c ∷ []) l i (
      x,
      ts,
      m ∷ us ++ c ∷ [],
      append_assoc ts (m ∷ us) (c ∷ []),
      place_of m a,
      behind_of symbol.Comma (Then OneSet (λ b. Closed (link_of x b))) (link_of x y) m (us ++ c ∷ []) l j (y, us, c ∷ [], refl, place_of c b, closed_of symbol.RoundClose (link_of x y) c l k),
    )

-- ---- two places and more

abbrev pub path_of : List Arg → RawCall
path_of xs = record { word = Path; args = xs; above = None }

abbrev pub Rest : Arg → Arg → Before RawCall
Rest a b = Then (Many symbol.Comma OneSet (a ∷ b ∷ [])) (λ xs. Closed (path_of xs))

abbrev RestPlain : Arg → Arg → Rule RawCall
RestPlain a b = ThenPlain (Extends symbol.Comma IsOne (a ∷ b ∷ [])) (λ xs. ClosedPlain (path_of xs))

abbrev rest_at : Arg → Arg → List Lexeme → Read RawCall
rest_at a b = then (many symbol.Comma one_at (a ∷ b ∷ [])) (λ xs. closing (path_of xs))

abbrev pub PathCall : Before RawCall
PathCall = Then (Token symbol.RoundOpen) (λ t. Then OneSet (λ a. Then (Token symbol.Comma) (λ t. Then OneSet (λ b. Rest a b))))

abbrev pub PathPlain : Rule RawCall
PathPlain = ThenPlain (OneToken symbol.RoundOpen) (λ t. ThenPlain IsOne (λ a. ThenPlain (OneToken symbol.Comma) (λ t. ThenPlain IsOne (λ b. RestPlain a b))))

rest_exact : (r : Room) → Passes r symbol.RoundClose → (a b : Arg) → Exact r (Rest a b) (RestPlain a b) (λ n. rest_at a b)
rest_exact r closes a b =
    in_turn r (Many symbol.Comma OneSet (a ∷ b ∷ [])) (Extends symbol.Comma IsOne (a ∷ b ∷ [])) (λ xs. Closed (path_of xs)) (λ xs. ClosedPlain (path_of xs))
    (λ n. many symbol.Comma one_at (a ∷ b ∷ [])) (λ xs n. closing (path_of xs))
    (more_read r symbol.Comma OneSet IsOne (λ n. one_at) (r.passes symbol.Comma (refl, refl)) refl (one_exact r) (a ∷ b ∷ [])) (λ xs. closing_exact r closes (path_of xs))

path_exact : (r : Room) → Passes r symbol.RoundOpen → Passes r symbol.RoundClose → Exact r PathCall PathPlain (λ n. path_call)
unfolding path_call
path_exact r opens closes =
    behind r symbol.RoundOpen (Then OneSet (λ a. Then (Token symbol.Comma) (λ t. Then OneSet (λ b. Rest a b))))
    (ThenPlain IsOne (λ a. ThenPlain (OneToken symbol.Comma) (λ t. ThenPlain IsOne (λ b. RestPlain a b))))
    (λ n. then one_at (λ a ls. after symbol.Comma ls >>= then one_at (λ b. rest_at a b))) opens refl
    (in_turn r OneSet IsOne (λ a. Then (Token symbol.Comma) (λ t. Then OneSet (λ b. Rest a b))) (λ a. ThenPlain (OneToken symbol.Comma) (λ t. ThenPlain IsOne (λ b. RestPlain a b)))
    (λ n. one_at) (λ a n ls. after symbol.Comma ls >>= then one_at (λ b. rest_at a b)) (one_exact r)
    (λ a. behind r symbol.Comma (Then OneSet (λ b. Rest a b)) (ThenPlain IsOne (λ b. RestPlain a b)) (λ n. then one_at (λ b. rest_at a b)) (r.passes symbol.Comma (refl, refl)) refl
    (in_turn r OneSet IsOne (λ b. Rest a b) (λ b. RestPlain a b) (λ n. one_at) (λ b n. rest_at a b) (one_exact r) (λ b. rest_exact r closes a b))))

pub path_words : (x : RawCall) (ls : List Lexeme) → PathPlain x ls → (w : Lexeme) → Is (symbol.Call Path) w → IsCall x (w ∷ ls)
path_words x ls p w i =
    let o = behind_words symbol.RoundOpen (ThenPlain IsOne (λ a. ThenPlain (OneToken symbol.Comma) (λ t. ThenPlain IsOne (λ b. RestPlain a b)))) x ls p in
    let a = o.3 in
    let m = behind_words symbol.Comma (ThenPlain IsOne (λ b. RestPlain a.0 b)) x a.2 a.5 in
    let b = m.3 in
    let r = b.5 in
    let c = closed_words symbol.RoundClose (path_of r.0) x r.2 r.5 in
    let whole : ls ≡ o.0 ∷ a.1 ++ m.0 ∷ b.1 ++ r.1 ++ c.0 ∷ [] =
    o.4 ∙ ap (λ z. o.0 ∷ z) (a.3 ∙ ap (λ z. a.1 ++ z) (m.4 ∙ ap (λ z. m.0 ∷ z) (b.3 ∙ ap (λ z. b.1 ++ z) (r.3 ∙ ap (λ z. r.1 ++ z) c.3))) ∙ sym (four_parts a.1 (m.0 ∷ b.1) r.1 (c.0 ∷ []))) in
    subst (λ z. IsCall z (w ∷ ls)) (sym (c.2 ∙ ap path_of r.4.1)) (subst (λ z. IsCall (path_of (a.0 ∷ b.0 ∷ r.4.0)) (w ∷ z)) (sym whole) (IsCall.path i o.2 a.4 m.2 b.4 r.4.2 c.1))

pub path_call_of : {o m c : Lexeme} {x y : Arg} {zs : List Arg} {ts us vs : List Lexeme} (l : Lexeme)
    → Is symbol.RoundOpen o → IsOne x ts → Is symbol.Comma m → IsOne y us → IsMore symbol.Comma IsOne zs vs → Is symbol.RoundClose c
    → PathCall (path_of (x ∷ y ∷ zs)) (o ∷ ts ++ m ∷ us ++ vs ++ c ∷ []) l
path_call_of {o} {m} {c} {x} {y} {zs} {ts} {us} {vs} l i a j b others k =
    let all = path_of (x ∷ y ∷ zs) in
    let rest : Many symbol.Comma OneSet (x ∷ y ∷ []) (x ∷ y ∷ zs) vs c =
    many_of symbol.Comma IsOne OneSet (λ k. Unit {0}) (λ x ls l is u. place_of l is) (λ j i. tt) c tt (is_other symbol.RoundClose symbol.Comma c k refl) others (x ∷ y ∷ []) in
    behind_of symbol.RoundOpen (Then OneSet (λ a. Then (Token symbol.Comma) (λ t. Then OneSet (λ b. Rest a b)))) all o (ts ++ m ∷ us ++ vs ++ c ∷ []) l i (
      x,
      ts,
      m ∷ us ++ (vs ++ c ∷ []),
      four_parts ts (m ∷ us) vs (c ∷ []),
      place_of m a,
      behind_of symbol.Comma (Then OneSet (λ b. Rest x b)) all m (us ++ (vs ++ c ∷ [])) l j
          (y, us, vs ++ c ∷ [], refl, place_of (head (vs ++ c ∷ []) l) b, (x ∷ y ∷ zs, vs, c ∷ [], refl, rest, closed_of symbol.RoundClose all c l k)),
    )

-- ---- a call

abbrev pub plain_of : CallWord → RawCall
plain_of word = record { word = word; args = []; above = None }

abbrev pub Behind : CallWord → Before RawCall
Behind Any = Nothing (plain_of Any)
Behind Drop = Nothing (plain_of Drop)
Behind Internal = Nothing (plain_of Internal)
Behind Link = LinkCall
Behind Path = PathCall
Behind (Of c) = SetsCall c

abbrev pub BehindPlain : CallWord → Rule RawCall
BehindPlain Any = NoToken (plain_of Any)
BehindPlain Drop = NoToken (plain_of Drop)
BehindPlain Internal = NoToken (plain_of Internal)
BehindPlain Link = LinkPlain
BehindPlain Path = PathPlain
BehindPlain (Of c) = SetsPlain c

-- no limit on brackets: calls have them one at a time
pub free : Room
free = record { Fits = λ n ls. Unit {0}; front = λ n ls ms fits. tt; more = λ n m ls le fits. tt; passes = λ s flat n l ls i fits. tt }

pub free_fits : (n : ℕ) (ls : List Lexeme) → free.Fits n ls
unfolding free
free_fits n ls = tt

pub behind_exact : (word : CallWord) → Exact free (Behind word) (BehindPlain word) (λ n. call_behind word)
behind_exact Any = no_token free (plain_of Any)
behind_exact Drop = no_token free (plain_of Drop)
behind_exact Internal = no_token free (plain_of Internal)
behind_exact Link = link_exact free (λ n l ls i fits. free_fits n ls) (λ n l ls i fits. free_fits n ls)
behind_exact Path = path_exact free (λ n l ls i fits. free_fits n ls) (λ n l ls i fits. free_fits n ls)
behind_exact (Of c) = sets_exact free (λ n l ls i fits. free_fits n ls) (λ n l ls i fits. free_fits n ls) c
