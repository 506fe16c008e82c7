-- What is written closes the brackets that it opens.
use Rattle.std.proofs.Common.{◌≡◌, ℕ, suc, List, [], ◌∷◌, ◌++◌, None, refl, sym, ap, ◌∙◌, subst, arith, append_assoc}
use Rattle.policy_grammar.specs.declared.lexeme.Lexeme.{Lexeme}
use Rattle.policy_grammar.specs.declared.symbol.Symbol.{Symbol}
use Rattle.policy_grammar.specs.declared.symbol.Symbol.TheVariants as symbol
use Rattle.policy_words.specs.declared.word.CallWord.{CallWord}
use Rattle.policy_words.specs.declared.word.CallWord.TheVariants.{Any, Drop, Internal, Link, Path, Of}
use Rattle.policy_grammar.specs.Raw.{RawCall, Step}
use Rattle.policy_grammar.specs.Calls.{one_at}
use Rattle.policy_words.specs.declared.word.SetCall.{SetCall}
use Rattle.policy_grammar.proofs.Symbols.{call_apart}
use Rattle.grammar_law.specs.Grammar.{Is, IsOne, IsRanked, IsChoice, IsJoint, IsUnit, IsAtom}
use Rattle.grammar_law.proofs.Lookups.{a_token}
use Rattle.grammar_law.proofs.Readers.{Before, head, IsFlat, Balanced}
use Rattle.grammar_law.proofs.Tokens.{Token, Nothing}
use Rattle.grammar_law.proofs.Sequences.{Then}
use Rattle.grammar_law.proofs.Lists.{more_read}
use Rattle.grammar_law.proofs.NameReaders.{Set, set_exact, OneSet, one_exact}
use Rattle.grammar_law.proofs.SetsReaders.{more_exact, SetsCall, SetsInside, Close, call_of}
use Rattle.grammar_law.proofs.CallReaders.{Behind, LinkCall, PathCall, Closed, Rest, link_of, path_of, plain_of}
use Rattle.grammar_law.proofs.WholeCalls as calls
use Rattle.grammar_law.proofs.WholeCalls.{Called, word_of-is}
use Rattle.grammar_law.proofs.Nesting.{brackets, opened, closed}

-- it closes one bracket more than it opens
abbrev Closes : {A : Type 0} → Before A → Type 0
Closes {A} G = (n : ℕ) (x : A) (ls ms : List Lexeme) (l : Lexeme) → G x ls l → brackets.Fits n (ls ++ ms) → brackets.Fits (suc n) ms

closes_then : {A B : Type 0} (G : Before A) (H : A → Before B) → Balanced brackets G → ((x : A) → Closes (H x)) → Closes (Then G H)
closes_then G H balanced closes n y ls ms l t fits =
    let fits' = subst (brackets.Fits n) (ap (λ z. z ++ ms) t.3 ∙ append_assoc t.1 t.2 ms) fits in
    closes t.0 n y t.2 ms l t.5 (balanced n t.0 t.1 (t.2 ++ ms) (head t.2 l) t.4 fits')

closes_end : (v : RawCall) → Closes (Closed v)
closes_end v n y ls ms l t fits =
    let whole : ls ++ ms ≡ t.0 ∷ ms = ap (λ z. z ++ ms) (t.3 ∙ ap (λ z. t.1 ++ z) t.5.1 ∙ ap (λ z. z ++ []) t.4.0) in
    closed n t.0 ms t.4.1 (subst (brackets.Fits n) whole fits)

open_then : {A : Type 0} (H : Before A) → Closes H → Balanced brackets (Then (Token symbol.RoundOpen) (λ t. H))
open_then H closes n y ls ms l t fits =
    let whole : ls ++ ms ≡ t.0 ∷ t.2 ++ ms = ap (λ z. z ++ ms) (t.3 ∙ ap (λ z. z ++ t.2) t.4.0) in
    let room = opened n t.0 (t.2 ++ ms) t.4.1 (subst (brackets.Fits n) whole fits) in
    subst (λ k. brackets.Fits k ms) (sym room.1) (closes room.0 y t.2 ms l t.5 room.2)

place_balanced : Balanced brackets OneSet
place_balanced = (one_exact brackets).known.balanced

comma_balanced : Balanced brackets (Token symbol.Comma)
comma_balanced n x ls ms l g fits = brackets.passes symbol.Comma (refl, refl) n x ms g.1 (subst (λ z. brackets.Fits n (z ++ ms)) g.0 fits)

sets_balanced : (word : SetCall) → Balanced brackets (SetsCall word)
sets_balanced word =
    open_then (SetsInside word)
    (closes_then Set _ (set_exact brackets).known.balanced (λ x. closes_then _ (λ s. Close word s) (more_exact brackets (x ∷ [], None)).known.balanced (λ s. closes_end (call_of word s))))

link_balanced : Balanced brackets LinkCall
link_balanced =
    open_then (Then OneSet (λ a. Then (Token symbol.Comma) (λ t. Then OneSet (λ b. Closed (link_of a b)))))
    (closes_then OneSet (λ a. Then (Token symbol.Comma) (λ t. Then OneSet (λ b. Closed (link_of a b)))) place_balanced
    (λ a. closes_then (Token symbol.Comma) (λ t. Then OneSet (λ b. Closed (link_of a b))) comma_balanced
    (λ t. closes_then OneSet (λ b. Closed (link_of a b)) place_balanced (λ b. closes_end (link_of a b)))))

path_balanced : Balanced brackets PathCall
path_balanced =
    open_then (Then OneSet (λ a. Then (Token symbol.Comma) (λ t. Then OneSet (λ b. Rest a b))))
    (closes_then OneSet (λ a. Then (Token symbol.Comma) (λ t. Then OneSet (λ b. Rest a b))) place_balanced
    (λ a. closes_then (Token symbol.Comma) (λ t. Then OneSet (λ b. Rest a b)) comma_balanced
    (λ t. closes_then OneSet (λ b. Rest a b) place_balanced
    (λ b. closes_then _ (λ xs. Closed (path_of xs))
    (more_read brackets symbol.Comma OneSet IsOne (λ n. one_at) (brackets.passes symbol.Comma (refl, refl)) refl (one_exact brackets) (a ∷ b ∷ [])).known.balanced
    (λ xs. closes_end (path_of xs))))))

nothing_balanced : {A : Type 0} (v : A) → Balanced brackets (Nothing v)
nothing_balanced v n x ls ms l g fits = subst (λ z. brackets.Fits n (z ++ ms)) g.1 fits

behind_balanced : (word : CallWord) → Balanced brackets (Behind word)
behind_balanced Any = nothing_balanced (plain_of Any)
behind_balanced Drop = nothing_balanced (plain_of Drop)
behind_balanced Internal = nothing_balanced (plain_of Internal)
behind_balanced Link = link_balanced
behind_balanced Path = path_balanced
behind_balanced (Of c) = sets_balanced c

pub word_flat : (word : CallWord) → IsFlat (symbol.Call word)
word_flat word = (call_apart word 16 (omega arith), call_apart word 17 (omega arith))

pub called_word : (x : RawCall) (ls : List Lexeme) (l : Lexeme) → (c : Called x ls l) → Is (symbol.Call c.2) c.0
called_word x ls l c = record { symbol = word_of-is c.0.symbol c.2 c.4 }

pub call_balanced : Balanced brackets Called
call_balanced n x ls ms l c fits =
    let room = brackets.passes (symbol.Call c.2) (word_flat c.2) n c.0 (c.1 ++ ms) (called_word x ls l c) (subst (λ z. brackets.Fits n (z ++ ms)) c.3 fits) in
    behind_balanced c.2 n x c.1 ms l c.5 room

around : (n : ℕ) (o c : Lexeme) (ls ms : List Lexeme) → Is symbol.RoundOpen o → Is symbol.RoundClose c → ((m : ℕ) (ns : List Lexeme) → brackets.Fits m (ls ++ ns) → brackets.Fits m ns)
    → brackets.Fits n (o ∷ (ls ++ c ∷ []) ++ ms) → brackets.Fits n ms
around n o c ls ms i j inside fits =
    let room = opened n o ((ls ++ c ∷ []) ++ ms) i fits in
    subst (λ k. brackets.Fits k ms) (sym room.1) (closed room.0 c ms j (inside room.0 (c ∷ ms) (subst (brackets.Fits room.0) (append_assoc ls (c ∷ []) ms) room.2)))

joined : (s : Symbol) → IsFlat s → (n : ℕ) (j : Lexeme) (ls ks ms : List Lexeme) → Is s j
    → ((ns : List Lexeme) → brackets.Fits n (ls ++ ns) → brackets.Fits n ns) → ((ns : List Lexeme) → brackets.Fits n (ks ++ ns) → brackets.Fits n ns)
    → brackets.Fits n ((ls ++ j ∷ ks) ++ ms) → brackets.Fits n ms
joined s flat n j ls ks ms i left right fits = right ms (brackets.passes s flat n j (ks ++ ms) i (left (j ∷ ks ++ ms) (subst (brackets.Fits n) (append_assoc ls (j ∷ ks) ms) fits)))

mutual
  ranked_balanced : {xs : List Step} {ls : List Lexeme} → IsRanked xs ls → (n : ℕ) (ms : List Lexeme) → brackets.Fits n (ls ++ ms) → brackets.Fits n ms
  ranked_balanced (IsRanked.choice c) n ms fits = choice_balanced c n ms fits
  ranked_balanced (IsRanked.above {j = j} {ts = ts} {us = us} r i c) n ms fits =
      joined symbol.Above (refl, refl) n j ts us ms i (λ ns h. ranked_balanced r n ns h) (λ ns h. choice_balanced c n ns h) fits

  choice_balanced : {xs : List Step} {ls : List Lexeme} → IsChoice xs ls → (n : ℕ) (ms : List Lexeme) → brackets.Fits n (ls ++ ms) → brackets.Fits n ms
  choice_balanced (IsChoice.joint c) n ms fits = joint_balanced c n ms fits
  choice_balanced (IsChoice.or {j = j} {ts = ts} {us = us} r i c) n ms fits =
      joined symbol.Or (refl, refl) n j ts us ms i (λ ns h. choice_balanced r n ns h) (λ ns h. joint_balanced c n ns h) fits

  joint_balanced : {xs : List Step} {ls : List Lexeme} → IsJoint xs ls → (n : ℕ) (ms : List Lexeme) → brackets.Fits n (ls ++ ms) → brackets.Fits n ms
  joint_balanced (IsJoint.unit c) n ms fits = unit_balanced c n ms fits
  joint_balanced (IsJoint.and {j = j} {ts = ts} {us = us} r i c) n ms fits =
      joined symbol.And (refl, refl) n j ts us ms i (λ ns h. joint_balanced r n ns h) (λ ns h. unit_balanced c n ns h) fits

  unit_balanced : {xs : List Step} {ls : List Lexeme} → IsUnit xs ls → (n : ℕ) (ms : List Lexeme) → brackets.Fits n (ls ++ ms) → brackets.Fits n ms
  unit_balanced (IsUnit.atom a) n ms fits = atom_balanced a n ms fits
  unit_balanced (IsUnit.not {n = t} {ts = ts} i a) n ms fits = atom_balanced a n ms (brackets.passes symbol.Not (refl, refl) n t (ts ++ ms) i fits)

  pub atom_balanced : {xs : List Step} {ls : List Lexeme} → IsAtom xs ls → (n : ℕ) (ms : List Lexeme) → brackets.Fits n (ls ++ ms) → brackets.Fits n ms
  atom_balanced (IsAtom.bracket {o = o} {c = c} {ts = ts} i r j) n ms fits = around n o c ts ms i j (λ m ns h. ranked_balanced r m ns h) fits
  atom_balanced (IsAtom.call {x = x} {ts = ts} c) n ms fits = call_balanced n x ts ms (a_token (symbol.Call Any)) (calls.call_of (a_token (symbol.Call Any)) c) fits
