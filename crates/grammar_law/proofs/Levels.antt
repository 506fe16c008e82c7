-- What reads the sides of an operator.
use Rattle.std.proofs.Common.{◌≡◌, ℕ, List, [], ◌∷◌, ◌++◌, refl, sym, ap, ◌∙◌, subst, append_assoc, append-nil}
use Rattle.policy_grammar.specs.declared.lexeme.Lexeme.{Lexeme}
use Rattle.policy_grammar.specs.declared.symbol.Symbol.{Symbol}
use Rattle.policy_grammar.specs.declared.symbol.Symbol.TheVariants as symbol
use Rattle.policy_grammar.specs.Raw.{Step}
use Rattle.policy_grammar.specs.Ranked.{Reader}
use Rattle.grammar_law.specs.Grammar.{Is, Rule}
use Rattle.grammar_law.proofs.Lookups.{Differ, Isnt}
use Rattle.grammar_law.proofs.Readers.{Before, head, head-append, four_parts, IsFlat, Passes, Balanced, Stops, HasOne, Known}
use Rattle.grammar_law.proofs.Tokens.{Nothing, NoToken, nothing, no_token}
use Rattle.grammar_law.proofs.Sequences.{Then, ThenPlain, then, then-reads, then-sound, then-stops, then-balanced, then-known}
use Rattle.grammar_law.proofs.Repeats.{Links, Linked, Chained, repeat, repeat-reads, repeat-sound, repeat-stops, links-balanced, links-plain, links-snoc}
use Rattle.grammar_law.proofs.Lists.{stops_in_words}
use Rattle.grammar_law.proofs.Atoms.{Onto, ReadsAt}
use Rattle.grammar_law.proofs.Nesting.{brackets}

abbrev pub Family : Type 1
Family = List Step → Before (List Step)

-- what is said of a kind of expressions apart from what reads them
pub record Written (G : Family) (C : Rule (List Step)) : Type 0 where
  pub plain : (out y : List Step) (ls : List Lexeme) (l : Lexeme) → G out y ls l → Onto out C y ls
  pub balanced : (out : List Step) → Balanced brackets (G out)
  pub some : (out : List Step) → HasOne (Onto out C)

-- an operator that groups to the left: its symbol, and the step that stands for it
pub record Operator : Type 0 where
  pub sign : Symbol
  pub step : Lexeme → Step
  pub flat : IsFlat sign
  pub inner : Differ sign symbol.EndOfText

abbrev linked : Operator → Reader → Lexeme → Reader
linked level side j so_far = then (side so_far) (λ z. nothing (z ++ level.step j ∷ []))

-- a side, and more behind operators
abbrev pub joined : Operator → Reader → Reader
joined level side out = then (side out) (λ y. repeat level.sign (linked level side) y)

abbrev Side : Operator → Family → Lexeme → Family
Side level G j so_far = Then (G so_far) (λ z. Nothing (z ++ level.step j ∷ []))

abbrev SidePlain : Operator → Rule (List Step) → Lexeme → List Step → Rule (List Step)
SidePlain level C j so_far = ThenPlain (Onto so_far C) (λ z. NoToken (z ++ level.step j ∷ []))

abbrev pub Joined : Operator → Family → Family
Joined level G out = Then (G out) (λ y. Chained level.sign (Side level G) y)

abbrev JoinedPlain : Operator → Rule (List Step) → List Step → Rule (List Step)
JoinedPlain level C out = ThenPlain (Onto out C) (λ y. Linked level.sign (SidePlain level C) y)

operator_passes : (level : Operator) → Passes brackets level.sign
operator_passes level = brackets.passes level.sign (level.flat)

side-balanced : (level : Operator) (G : Family) → ((out : List Step) → Balanced brackets (G out)) → (j : Lexeme) (so_far : List Step) → Balanced brackets (Side level G j so_far)
side-balanced level G balanced j so_far =
    then-balanced brackets (G so_far) (λ z. Nothing (z ++ level.step j ∷ [])) (balanced so_far) (λ z. (no_token brackets (z ++ level.step j ∷ [])).known.balanced)

side-plain : (level : Operator) (G : Family) (C : Rule (List Step)) → Written G C
    → (j : Lexeme) (so_far y : List Step) (ls : List Lexeme) (l : Lexeme) → Side level G j so_far y ls l → SidePlain level C j so_far y ls
side-plain level G C w j so_far y ls l t = (t.0, t.1, t.2, t.3, w.plain so_far t.0 t.1 (head t.2 l) t.4, t.5)

pub joined_at : (level : Operator) (G : Family) (C : Rule (List Step)) → Written G C → (n : ℕ) (side : Reader) → ReadsAt G n side → ReadsAt (Joined level G) n (joined level side)
joined_at level G C w n side at = record {
  reads = λ out.
      then-reads brackets n (G out) (λ y. Chained level.sign (Side level G) y) (side out) (λ y. repeat level.sign (linked level side) y) (w.balanced out) (at.reads out)
      (repeat-reads brackets n level.sign (Side level G) (linked level side) (operator_passes level) (side-balanced level G w.balanced)
      (λ j so_far. then-reads brackets n (G so_far) (λ z. Nothing (z ++ level.step j ∷ [])) (side so_far) (λ z. nothing (z ++ level.step j ∷ [])) (w.balanced so_far) (at.reads so_far)
      (λ z. (no_token brackets (z ++ level.step j ∷ [])).known.reads n)));
  sound = λ out.
      then-sound (G out) (λ y. Chained level.sign (Side level G) y) (side out) (λ y. repeat level.sign (linked level side) y) (at.sound out)
      (repeat-sound level.sign (Side level G) (linked level side) (level.inner)
      (λ j so_far. then-sound (G so_far) (λ z. Nothing (z ++ level.step j ∷ [])) (side so_far) (λ z. nothing (z ++ level.step j ∷ [])) (at.sound so_far)
      (λ z. (no_token brackets (z ++ level.step j ∷ [])).known.sound n)));
}

-- ---- in the words of the grammar

-- an expression of a level, of its sides
pub record Built (level : Operator) (C Up : Rule (List Step)) : Type 0 where
  pub base : {xs : List Step} {ls : List Lexeme} → C xs ls → Up xs ls
  pub step : {xs ys : List Step} {j : Lexeme} {ls ms : List Lexeme} → Up xs ls → Is level.sign j → C ys ms → Up (xs ++ ys ++ level.step j ∷ []) (ls ++ j ∷ ms)

linked_words : (level : Operator) (C Up : Rule (List Step)) → Built level C Up → (out : List Step) {so_far y : List Step} {ls : List Lexeme} → Linked level.sign (SidePlain level C) so_far y ls
    → (xs : List Step) (ts : List Lexeme) → so_far ≡ out ++ xs → Up xs ts → Onto out Up y (ts ++ ls)
linked_words level C Up b out Linked.none xs ts e up = (xs, e, subst (Up xs) (sym (append-nil ts)) up)
linked_words level C Up b out (Linked.more {x = so_far} {y = mid} {j = j} {ks = ks} {ls = ls} i l others) xs ts e up =
    let zs = l.4.0 in
    let st : List Step = level.step j ∷ [] in
    let whole : ks ≡ l.1 = l.3 ∙ ap (λ z. l.1 ++ z) l.5.1 ∙ append-nil l.1 in
    let read : mid ≡ out ++ (xs ++ zs ++ st) =
    l.5.0 ∙ ap (λ z. z ++ st) (l.4.1 ∙ ap (λ z. z ++ zs) e) ∙ four_parts out xs zs st ∙ ap (λ z. out ++ z) (sym (append_assoc xs zs st)) in
    let next : Up (xs ++ zs ++ st) (ts ++ j ∷ ks) = subst (λ z. Up (xs ++ zs ++ st) (ts ++ j ∷ z)) (sym whole) (b.step up i l.4.2) in
    let rest = linked_words level C Up b out others (xs ++ zs ++ st) (ts ++ j ∷ ks) read next in
    subst (Onto out Up _) (append_assoc ts (j ∷ ks) ls) rest

joined_words : (level : Operator) (C Up : Rule (List Step)) → Built level C Up → (out y : List Step) (ls : List Lexeme) → JoinedPlain level C out y ls → Onto out Up y ls
joined_words level C Up b out y ls p =
    let up = linked_words level C Up b out p.5 p.4.0 p.1 p.4.1 (b.base p.4.2) in
    subst (Onto out Up y) (sym p.3) up

pub joined_written : (level : Operator) (G : Family) (C Up : Rule (List Step)) → Built level C Up → Written G C → Written (Joined level G) Up
joined_written level G C Up b w = record {
  plain = λ out y ls l g.
      joined_words level C Up b out y ls
      (g.0, g.1, g.2, g.3, w.plain out g.0 g.1 (head g.2 l) g.4, links-plain level.sign (Side level G) (SidePlain level C) (side-plain level G C w) l g.5.0);
  balanced = λ out. then-balanced brackets (G out) (λ y. Chained level.sign (Side level G) y) (w.balanced out)
      (λ y n z ls ms l g fits. links-balanced brackets level.sign (Side level G) (operator_passes level) (side-balanced level G w.balanced) n l g.0 ms fits);
  some = λ out. let s = w.some out in (s.0, s.1, (s.2.0, s.2.1, b.base s.2.2));
}

-- ---- where it stops

pub joined_stops : (level : Operator) (G : Family) (C Up : Rule (List Step)) → Built level C Up → (side : ℕ → Reader) → ((out : List Step) → Known brackets (G out) (Onto out C) (λ m. side m out))
    → (n : ℕ) → ((out : List Step) → Stops brackets (Onto out C) n (λ m. side m out)) → (out : List Step) → Stops brackets (Onto out Up) n (λ m. joined level (side m) out)
joined_stops level G C Up b side known n stops out =
    stops_in_words brackets n (JoinedPlain level C out) (Onto out Up) (λ m. joined level (side m) out) (joined_words level C Up b out)
    (then-stops brackets n (G out) (Onto out C) (λ y. Linked level.sign (SidePlain level C) y) (λ m. side m out) (λ y m. repeat level.sign (linked level (side m)) y)
    (known out) (stops out) (λ y. (y, [], Linked.none))
    (repeat-stops brackets n level.sign (Side level G) (SidePlain level C) (λ j so_far m. linked level (side m) j so_far) (operator_passes level) (level.inner)
    (λ j so_far. then-known brackets (G so_far) (Onto so_far C) (λ z. Nothing (z ++ level.step j ∷ [])) (λ z. NoToken (z ++ level.step j ∷ []))
    (λ m. side m so_far) (λ z m. nothing (z ++ level.step j ∷ []))
    (known so_far) (λ z. (no_token brackets (z ++ level.step j ∷ [])).known))
    (λ j so_far. then-stops brackets n (G so_far) (Onto so_far C) (λ z. NoToken (z ++ level.step j ∷ [])) (λ m. side m so_far) (λ z m. nothing (z ++ level.step j ∷ []))
    (known so_far) (stops so_far) (λ z. (no_token brackets (z ++ level.step j ∷ [])).known.some) (λ z. (no_token brackets (z ++ level.step j ∷ [])).stops n))))

-- ---- what is written is there to be read

-- a side stands before such a token
abbrev pub Stands : Family → Rule (List Step) → (Lexeme → Type 0) → Type 0
Stands G C Good = (out : List Step) (k : Lexeme) → Good k → (xs : List Step) (ls : List Lexeme) → C xs ls → G out (out ++ xs) ls k

-- sides and operators, and there may be more
abbrev pub Open : Operator → Family → Family
Open level G out y ls k = (x : List Step) × (front back : List Lexeme) × (ls ≡ front ++ back) × G out x front (head back k) × Links level.sign (Side level G) k x y back

pub open_base : (level : Operator) (G : Family) (C : Rule (List Step)) (Good : Lexeme → Type 0) → Stands G C Good → (out : List Step) (k : Lexeme)
    → Good k → {xs : List Step} {ls : List Lexeme} → C xs ls → Open level G out (out ++ xs) ls k
open_base level G C Good stands out k good {xs} {ls} c = (out ++ xs, ls, [], sym (append-nil ls), stands out k good xs ls c, Links.none)

pub open_step : (level : Operator) (G : Family) (C : Rule (List Step)) (Good : Lexeme → Type 0) → Stands G C Good → (out : List Step) (j k : Lexeme) → Is level.sign j → Good k
    → (xs ys : List Step) (ls ms : List Lexeme) → Open level G out (out ++ xs) ls j → C ys ms → Open level G out (out ++ (xs ++ ys ++ level.step j ∷ [])) (ls ++ j ∷ ms) k
open_step level G C Good stands out j k i good xs ys ls ms o c =
    let st : List Step = level.step j ∷ [] in
    let moved : (out ++ xs) ++ ys ++ st ≡ out ++ (xs ++ ys ++ st) = four_parts out xs ys st ∙ ap (λ z. out ++ z) (sym (append_assoc xs ys st)) in
    let side : Side level G j (out ++ xs) (out ++ (xs ++ ys ++ st)) ms k = ((out ++ xs) ++ ys, ms, [], sym (append-nil ms), stands (out ++ xs) k good ys ms c, (sym moved, refl)) in (
      o.0,
      o.1,
      o.2 ++ j ∷ ms,
      ap (λ z. z ++ j ∷ ms) o.3 ∙ append_assoc o.1 o.2 (j ∷ ms),
      subst (G out o.0 o.1) (sym (head-append o.2 (j ∷ ms) k)) o.4,
      links-snoc level.sign (Side level G) j k o.5 i side,
    )

pub open_ends : (level : Operator) (G : Family) (out y : List Step) (ls : List Lexeme) (l : Lexeme) → Isnt level.sign l → Open level G out y ls l → Joined level G out y ls l
open_ends level G out y ls l over o = (o.0, o.1, o.2, o.3, o.4, (o.5, over))
