-- Functions that read a list.
use Rattle.std.proofs.Common.{◌≡◌, ℕ, List, [], ◌∷◌, ◌++◌, refl, sym, ap, ◌∙◌, subst, append_assoc, append-nil}
use Rattle.policy_grammar.specs.declared.lexeme.Lexeme.{Lexeme}
use Rattle.policy_grammar.specs.declared.symbol.Symbol.{Symbol}
use Rattle.policy_grammar.specs.declared.symbol.Symbol.TheVariants.{EndOfText}
use Rattle.policy_grammar.specs.Reading.{Read}
use Rattle.grammar_law.specs.Grammar.{Is, Rule, IsMore, IsList}
use Rattle.grammar_law.proofs.Lookups.{Differ, Isnt}
use Rattle.grammar_law.proofs.Readers.{Before, head, Room, Passes, Stops, Known, Exact, stop_as}
use Rattle.grammar_law.proofs.Tokens.{Nothing, NoToken, nothing, no_token}
use Rattle.grammar_law.proofs.Sequences.{Then, ThenPlain, then, in_turn}
use Rattle.grammar_law.proofs.Repeats.{Links, Linked, Chained, repeat, repeated}

-- the same, told in other words
pub known_in_words : {A : Type 0} (r : Room) (G : Before A) (C D : Rule A) (f : ℕ → List Lexeme → Read A) → ((x : A) (ls : List Lexeme) → C x ls → D x ls) → Known r G C f → Known r G D f
known_in_words r G C D f words k = record {
  plain = λ y ls l g. words y ls (k.plain y ls l g);
  balanced = k.balanced;
  some = (k.some.0, k.some.1, words k.some.0 k.some.1 k.some.2);
  reads = k.reads;
  sound = k.sound;
}

pub stops_in_words : {A : Type 0} (r : Room) (n : ℕ) (C D : Rule A) (f : ℕ → List Lexeme → Read A) → ((x : A) (ls : List Lexeme) → C x ls → D x ls) → Stops r C n f → Stops r D n f
stops_in_words r n C D f words stops ls e ended fits h =
    let s = stops ls e ended fits h in
    stop_as s s.always s.thing s.back (words s.thing (s.front ++ s.back) s.whole)

pub exact_in_words : {A : Type 0} (r : Room) (G : Before A) (C D : Rule A) (f : ℕ → List Lexeme → Read A) → ((x : A) (ls : List Lexeme) → C x ls → D x ls) → Exact r G C f → Exact r G D f
exact_in_words r G C D f words x = record { known = known_in_words r G C D f words x.known; stops = λ n. stops_in_words r n C D f words (x.stops n) }

-- one thing more behind those that were read
abbrev pub Adding : {A : Type 0} → Before A → List A → Before (List A)
Adding G so_far = Then G (λ y. Nothing (so_far ++ y ∷ []))

abbrev pub AddingPlain : {A : Type 0} → Rule A → List A → Rule (List A)
AddingPlain C so_far = ThenPlain C (λ y. NoToken (so_far ++ y ∷ []))

abbrev pub adding : {A : Type 0} → (List Lexeme → Read A) → List A → List Lexeme → Read (List A)
adding one so_far = then one (λ y. nothing (so_far ++ y ∷ []))

added : {A : Type 0} (r : Room) (G : Before A) (C : Rule A) (one : ℕ → List Lexeme → Read A) → Exact r G C one
    → (so_far : List A) → Exact r (Adding G so_far) (AddingPlain C so_far) (λ n. adding (one n) so_far)
added r G C one x so_far =
    in_turn r G C (λ y. Nothing (so_far ++ y ∷ [])) (λ y. NoToken (so_far ++ y ∷ [])) one (λ y n. nothing (so_far ++ y ∷ [])) x (λ y. no_token r (so_far ++ y ∷ []))

-- more things behind those that were read
abbrev pub Extends : {A : Type 0} → Symbol → Rule A → List A → Rule (List A)
Extends {A} joint One so_far ys ls = (xs : List A) × (ys ≡ so_far ++ xs) × IsMore joint One xs ls

linked-Extends : {A : Type 0} (joint : Symbol) (One : Rule A) {so_far ys : List A} {ls : List Lexeme} → Linked joint (λ j. AddingPlain One) so_far ys ls → Extends joint One so_far ys ls
linked-Extends joint One (Linked.none {x = so_far}) = ([], sym (append-nil so_far), IsMore.none)
linked-Extends joint One (Linked.more {x = so_far} {z = ys} {ks = ks} {ls = ls} i l others) =
    let rest = linked-Extends joint One others in
    let whole : ks ≡ l.1 = l.3 ∙ ap (λ z. l.1 ++ z) l.5.1 ∙ append-nil l.1 in
    (l.0 ∷ rest.0, rest.1 ∙ ap (λ z. z ++ rest.0) l.5.0 ∙ append_assoc so_far (l.0 ∷ []) rest.0, IsMore.more i (subst (One l.0) (sym whole) l.4) rest.2)

-- things behind joints
abbrev pub Many : {A : Type 0} → Symbol → Before A → List A → Before (List A)
Many joint G = Chained joint (λ j. Adding G)

abbrev pub many : {A : Type 0} → Symbol → (List Lexeme → Read A) → List A → List Lexeme → Read (List A)
many joint one = repeat joint (λ j so_far. adding one so_far)

pub more_read : {A : Type 0} (r : Room) (joint : Symbol) (G : Before A) (C : Rule A) (one : ℕ → List Lexeme → Read A) → Passes r joint → Differ joint EndOfText → Exact r G C one
    → (so_far : List A) → Exact r (Many joint G so_far) (Extends joint C so_far) (λ n. many joint (one n) so_far)
more_read r joint G C one passes d x so_far =
    exact_in_words r (Many joint G so_far) (Linked joint (λ j. AddingPlain C) so_far) (Extends joint C so_far) (λ n. many joint (one n) so_far) (λ ys ls l. linked-Extends joint C l)
    (repeated r joint (λ j. Adding G) (λ j. AddingPlain C) (λ j acc n. adding (one n) acc) passes d (λ j. added r G C one x) so_far)

-- what is there is linked, where each thing may stand before the next token
pub good_head : {A : Type 0} (joint : Symbol) (One : Rule A) (Good : Lexeme → Type 0) → ((j : Lexeme) → Is joint j → Good j) → (l : Lexeme) → Good l
    → {xs : List A} {ls : List Lexeme} → IsMore joint One xs ls → Good (head ls l)
good_head joint One Good joints l good IsMore.none = good
good_head joint One Good joints l good (IsMore.more {j = j} i o m) = joints j i

links_of : {A : Type 0} (joint : Symbol) (One : Rule A) (G : Before A) (Good : Lexeme → Type 0)
    → ((x : A) (ls : List Lexeme) (l : Lexeme) → One x ls → Good l → G x ls l) → ((j : Lexeme) → Is joint j → Good j)
    → (l : Lexeme) → Good l → {xs : List A} {ls : List Lexeme} → IsMore joint One xs ls → (so_far : List A) → Links joint (λ j. Adding G) l so_far (so_far ++ xs) ls
links_of joint One G Good each joints l good IsMore.none so_far = subst (λ z. Links joint (λ j. Adding G) l so_far z []) (sym (append-nil so_far)) Links.none
links_of joint One G Good each joints l good (IsMore.more {j = j} {x = x} {xs = xs} {ts = ts} {us = us} i o m) so_far =
    let here : Adding G so_far (so_far ++ x ∷ []) ts (head us l) = (x, ts, [], sym (append-nil ts), each x ts (head us l) o (good_head joint One Good joints l good m), (refl, refl)) in
    subst (λ z. Links joint (λ j. Adding G) l so_far z (j ∷ ts ++ us)) (append_assoc so_far (x ∷ []) xs) (Links.more i here (links_of joint One G Good each joints l good m (so_far ++ x ∷ [])))

pub many_of : {A : Type 0} (joint : Symbol) (One : Rule A) (G : Before A) (Good : Lexeme → Type 0)
    → ((x : A) (ls : List Lexeme) (l : Lexeme) → One x ls → Good l → G x ls l) → ((j : Lexeme) → Is joint j → Good j)
    → (l : Lexeme) → Good l → Isnt joint l → {xs : List A} {ls : List Lexeme} → IsMore joint One xs ls → (so_far : List A) → Many joint G so_far (so_far ++ xs) ls l
many_of joint One G Good each joints l good over m so_far = (links_of joint One G Good each joints l good m so_far, over)

-- a list of one thing at least
abbrev pub Listed : {A : Type 0} → Symbol → Before A → Before (List A)
Listed joint G = Then G (λ x. Many joint G (x ∷ []))

abbrev pub listed : {A : Type 0} → Symbol → (List Lexeme → Read A) → List Lexeme → Read (List A)
listed joint one = then one (λ x. many joint one (x ∷ []))

list_words : {A : Type 0} (joint : Symbol) (One : Rule A) (ys : List A) (ls : List Lexeme) → ThenPlain One (λ x. Extends joint One (x ∷ [])) ys ls → IsList joint One ys ls
list_words joint One ys ls t =
    let (more, whole, is) = t.5 in
    subst (λ z. IsList joint One z ls) (sym whole) (subst (IsList joint One (t.0 ∷ more)) (sym t.3) (IsList.list t.4 is))

pub list_read : {A : Type 0} (r : Room) (joint : Symbol) (G : Before A) (C : Rule A) (one : ℕ → List Lexeme → Read A) → Passes r joint → Differ joint EndOfText → Exact r G C one
    → Exact r (Listed joint G) (IsList joint C) (λ n. listed joint (one n))
list_read r joint G C one passes d x =
    exact_in_words r (Listed joint G) (ThenPlain C (λ y. Extends joint C (y ∷ []))) (IsList joint C) (λ n. listed joint (one n)) (list_words joint C)
    (in_turn r G C (λ y. Many joint G (y ∷ [])) (λ y. Extends joint C (y ∷ [])) one (λ y n. many joint (one n) (y ∷ [])) x (λ y. more_read r joint G C one passes d x (y ∷ [])))

pub listed_of : {A : Type 0} (joint : Symbol) (One : Rule A) (G : Before A) (Good : Lexeme → Type 0)
    → ((x : A) (ls : List Lexeme) (l : Lexeme) → One x ls → Good l → G x ls l) → ((j : Lexeme) → Is joint j → Good j)
    → (l : Lexeme) → Good l → Isnt joint l → {xs : List A} {ls : List Lexeme} → IsList joint One xs ls → Listed joint G xs ls l
listed_of joint One G Good each joints l good over (IsList.list {x = x} {xs = xs} {ts = ts} {us = us} o m) =
    (x, ts, us, refl, each x ts (head us l) o (good_head joint One Good joints l good m), many_of joint One G Good each joints l good over m (x ∷ []))
