-- What is said of a function that reads the front of some tokens.
use Rattle.std.proofs.Common.{◌≡◌, ℕ, ◌≤◌, ◌⊎◌, inl, inr, List, [], ◌∷◌, ◌++◌, Ok, Err, refl, sym, ap, ◌∙◌, subst, append_assoc}
use Rattle.policy_tokens.specs.declared.fault.PolicyFault.{PolicyFault}
use Rattle.policy_tokens.specs.declared.fault.PolicyFault.TheVariants.{Syntax}
use Rattle.policy_grammar.specs.declared.lexeme.Lexeme.{Lexeme}
use Rattle.policy_grammar.specs.declared.symbol.Symbol.{Symbol}
use Rattle.policy_grammar.specs.declared.symbol.Symbol.TheVariants.{RoundOpen, RoundClose, EndOfText}
use Rattle.policy_grammar.specs.Reading.{Read}
use Rattle.net_base.proofs.StepLemmas.{ok_same}
use Rattle.grammar_law.specs.Grammar.{Is, Rule}
use Rattle.grammar_law.proofs.Lookups.{Differ, is_other, not_both}

-- what is read, as which tokens, before which token
abbrev pub Before : Type 0 → Type 1
Before A = A → List Lexeme → Lexeme → Type 0

-- the first of some tokens that stand before another
abbrev pub head : List Lexeme → Lexeme → Lexeme
head [] l = l
head (k ∷ ks) l = k

abbrev pub tail : List Lexeme → Lexeme → List Lexeme → List Lexeme
tail [] l rest = rest
tail (k ∷ ks) l rest = ks ++ l ∷ rest

pub head-tail : (ks : List Lexeme) (l : Lexeme) (rest : List Lexeme) → ks ++ l ∷ rest ≡ head ks l ∷ tail ks l rest
head-tail [] l rest = refl
head-tail (k ∷ ks) l rest = refl

pub head-append : (ks ls : List Lexeme) (l : Lexeme) → head (ks ++ ls) l ≡ head ks (head ls l)
head-append [] ls l = refl
head-append (k ∷ ks) ls l = refl

pub head_is : (ks : List Lexeme) (l k : Lexeme) (rest others : List Lexeme) → k ∷ others ≡ ks ++ l ∷ rest → k ≡ head ks l
head_is [] l k rest others e = cc
head_is (m ∷ ks) l k rest others e = cc

-- the end of the text comes
abbrev pub Ended : List Lexeme → Type 0
Ended [] = ⊥
Ended (l ∷ ls) = Is EndOfText l ⊎ Ended ls

-- a symbol of no bracket
abbrev pub IsFlat : Symbol → Type 0
IsFlat s = Differ s RoundOpen × Differ s RoundClose

-- for these tokens so many brackets may still be opened
pub record Room : Type 1 where
  pub Fits : ℕ → List Lexeme → Type 0
  pub front : (n : ℕ) (ls ms : List Lexeme) → Fits n (ls ++ ms) → Fits n ls
  pub more : (n m : ℕ) (ls : List Lexeme) → n ≤ m → Fits n ls → Fits m ls
  pub passes : (s : Symbol) → IsFlat s → (n : ℕ) (l : Lexeme) (ls : List Lexeme) → Is s l → Fits n (l ∷ ls) → Fits n ls

-- behind a token of this symbol there is the same room
abbrev pub Passes : Room → Symbol → Type 0
Passes r s = (n : ℕ) (l : Lexeme) (ls : List Lexeme) → Is s l → r.Fits n (l ∷ ls) → r.Fits n ls

-- behind what is read there is the same room
abbrev pub Balanced : {A : Type 0} → Room → Before A → Type 0
Balanced {A} r G = (n : ℕ) (x : A) (ls ms : List Lexeme) (l : Lexeme) → G x ls l → r.Fits n (ls ++ ms) → r.Fits n ms

-- what is there is read
abbrev pub Reads : {A : Type 0} → Room → ℕ → Before A → (List Lexeme → Read A) → Type 0
Reads {A} r n G f = (x : A) (ls : List Lexeme) (l : Lexeme) (rest : List Lexeme) → G x ls l → r.Fits n ls → f (ls ++ l ∷ rest) ≡ Ok (x, l ∷ rest)

-- what is read is there
pub record WasRead {A : Type 0} (G : Before A) (ls : List Lexeme) (x : A) (after : List Lexeme) : Type 0 where
  pub front : List Lexeme
  pub next : Lexeme
  pub rest : List Lexeme
  pub all : ls ≡ front ++ next ∷ rest
  pub left : after ≡ next ∷ rest
  pub by : G x front next
  pub ended : Ended (next ∷ rest)

abbrev pub Sound : {A : Type 0} → Before A → (List Lexeme → Read A) → Type 0
Sound {A} G f = (ls : List Lexeme) (x : A) (after : List Lexeme) → Ended ls → f ls ≡ Ok (x, after) → WasRead G ls x after

-- A fault names a token: behind those before it the fault comes with this token whatever follows, and with others
-- there is something to read.
pub record Stop {A : Type 0} (C : Rule A) (n : ℕ) (f : ℕ → List Lexeme → Read A) (ls : List Lexeme) (e : PolicyFault) : Type 0 where
  pub front : List Lexeme
  pub here : Lexeme
  pub rest : List Lexeme
  pub all : ls ≡ front ++ here ∷ rest
  pub fault : e ≡ Syntax here.place
  pub always : (m : ℕ) (other : List Lexeme) → n ≤ m → f m (front ++ here ∷ other) ≡ Err e
  pub back : List Lexeme
  pub thing : A
  pub whole : C thing (front ++ back)

abbrev pub Stops : {A : Type 0} → Room → Rule A → ℕ → (ℕ → List Lexeme → Read A) → Type 0
Stops r C n f = (ls : List Lexeme) (e : PolicyFault) → Ended ls → r.Fits n ls → f n ls ≡ Err e → Stop C n f ls e

-- there is something of the kind
abbrev pub HasOne : {A : Type 0} → Rule A → Type 0
HasOne {A} C = (x : A) × (ls : List Lexeme) × C x ls

-- A function reads by these relations, with as many brackets as its number says: exactly what is there before the
-- next token.
pub record Known {A : Type 0} (r : Room) (G : Before A) (C : Rule A) (f : ℕ → List Lexeme → Read A) : Type 0 where
  pub plain : (x : A) (ls : List Lexeme) (l : Lexeme) → G x ls l → C x ls
  pub balanced : Balanced r G
  pub some : HasOne C
  pub reads : (n : ℕ) → Reads r n G (f n)
  pub sound : (n : ℕ) → Sound G (f n)

-- and otherwise it names the first wrong token
pub record Exact {A : Type 0} (r : Room) (G : Before A) (C : Rule A) (f : ℕ → List Lexeme → Read A) : Type 0 where
  pub known : Known r G C f
  pub stops : (n : ℕ) → Stops r C n f

pub four_parts : {A : Type 0} (a b c d : List A) → a ++ b ++ c ++ d ≡ a ++ (b ++ (c ++ d))
four_parts a b c d = append_assoc (a ++ b) c d ∙ append_assoc a b (c ++ d)

pub read_same : {A : Type 0} (x y : A) (ls ms : List Lexeme) → (let r : Read A = Ok (x, ls) in r ≡ Ok (y, ms)) → (x ≡ y) × (ls ≡ ms)
read_same {A} x y ls ms h = (ap (λ (p : A × List Lexeme). p.0) (ok_same (x, ls) (y, ms) h), ap (λ (p : A × List Lexeme). p.1) (ok_same (x, ls) (y, ms) h))

-- behind a token that isn't the end, the end comes still
pub ended_behind : (s : Symbol) (l : Lexeme) (ls : List Lexeme) → Differ s EndOfText → Is s l → Ended (l ∷ ls) → Ended ls
ended_behind s l ls d i (inl end) = absurd (not_both EndOfText l end (is_other s EndOfText l i d))
ended_behind s l ls d i (inr ended) = ended

-- what was read, as another reader has it
pub was_read_as : {A : Type 0} {F G : Before A} {ls : List Lexeme} {x : A} {after : List Lexeme} (w : WasRead F ls x after) → G x w.front w.next → WasRead G ls x after
was_read_as w by = record { front = w.front; next = w.next; rest = w.rest; all = w.all; left = w.left; by = by; ended = w.ended }

-- what was read behind a token, with this token
pub was_read_behind : {A : Type 0} {F G : Before A} {ls : List Lexeme} {x : A} {after : List Lexeme} (l : Lexeme) (w : WasRead F ls x after)
    → G x (l ∷ w.front) w.next → WasRead G (l ∷ ls) x after
was_read_behind l w by = record { front = l ∷ w.front; next = w.next; rest = w.rest; all = ap (λ z. l ∷ z) w.all; left = w.left; by = by; ended = w.ended }

-- a stop, as another reader has it
pub stop_as : {A B : Type 0} {C : Rule A} {D : Rule B} {n m : ℕ} {f : ℕ → List Lexeme → Read A} {g : ℕ → List Lexeme → Read B} {ls : List Lexeme} {e : PolicyFault}
    (s : Stop C n f ls e) → ((k : ℕ) (other : List Lexeme) → m ≤ k → g k (s.front ++ s.here ∷ other) ≡ Err e) → (thing : B) (back : List Lexeme) → D thing (s.front ++ back) → Stop D m g ls e
stop_as s always thing back whole =
    record { front = s.front; here = s.here; rest = s.rest; all = s.all; fault = s.fault; always = always; back = back; thing = thing; whole = whole }

-- a stop behind a token
pub stop_behind : {A : Type 0} {C D : Rule A} {n m : ℕ} {f g : ℕ → List Lexeme → Read A} {ls : List Lexeme} {e : PolicyFault} (l : Lexeme) (s : Stop C n f ls e)
    → ((k : ℕ) (other : List Lexeme) → m ≤ k → g k (l ∷ s.front ++ s.here ∷ other) ≡ Err e) → D s.thing (l ∷ s.front ++ s.back) → Stop D m g (l ∷ ls) e
stop_behind l s always whole =
    record { front = l ∷ s.front; here = s.here; rest = s.rest; all = ap (λ z. l ∷ z) s.all; fault = s.fault; always = always; back = s.back; thing = s.thing; whole = whole }

-- a stop at the first token
pub stop_here : {A : Type 0} {C : Rule A} {n : ℕ} {f : ℕ → List Lexeme → Read A} {l : Lexeme} {ls : List Lexeme} {e : PolicyFault} → e ≡ Syntax l.place
    → ((m : ℕ) (other : List Lexeme) → f m (l ∷ other) ≡ Err (Syntax l.place)) → (thing : A) (back : List Lexeme) → C thing back → Stop C n f (l ∷ ls) e
stop_here {l = l} {ls = ls} named always thing back whole =
    record { front = []; here = l; rest = ls; all = refl; fault = named; always = λ m other le. always m other ∙ ap Err (sym named); back = back; thing = thing; whole = whole }

-- what was read, and what stands at the front of what is left
pub all_on : {A : Type 0} {G : Before A} {ls mid : List Lexeme} {x : A} (w : WasRead G ls x mid) (front : List Lexeme) (next : Lexeme) (rest : List Lexeme)
    → mid ≡ front ++ next ∷ rest → ls ≡ (w.front ++ front) ++ next ∷ rest
all_on w front next rest e = w.all ∙ ap (λ z. w.front ++ z) (sym w.left ∙ e) ∙ sym (append_assoc w.front front (next ∷ rest))

-- it was read before that front
pub by_on : {A : Type 0} {G : Before A} {ls mid : List Lexeme} {x : A} (w : WasRead G ls x mid) (front : List Lexeme) (next : Lexeme) (rest : List Lexeme)
    → mid ≡ front ++ next ∷ rest → G x w.front (head front next)
by_on {G = G} {x = x} w front next rest e = subst (G x w.front) (head_is front next w.next rest w.rest (sym w.left ∙ e)) w.by

-- the end comes still in what is left
pub ended_after : {A : Type 0} {G : Before A} {ls mid : List Lexeme} {x : A} → WasRead G ls x mid → Ended mid
ended_after w = subst Ended (sym w.left) w.ended

-- there is room for what was read
pub front_fits : {A : Type 0} {G : Before A} {ls mid : List Lexeme} {x : A} (r : Room) (n : ℕ) (w : WasRead G ls x mid) → r.Fits n ls → r.Fits n w.front
front_fits r n w fits = r.front n w.front (w.next ∷ w.rest) (subst (r.Fits n) w.all fits)

-- and for what is left
pub left_fits : {A : Type 0} {G : Before A} {ls mid : List Lexeme} {x : A} (r : Room) (n : ℕ) → Balanced r G → WasRead G ls x mid → r.Fits n ls → r.Fits n mid
left_fits {mid = mid} {x = x} r n balanced w fits = balanced n x w.front mid w.next w.by (subst (r.Fits n) (w.all ∙ ap (λ z. w.front ++ z) (sym w.left)) fits)

-- what is read in front of more
pub reads_on : {A : Type 0} (r : Room) (n : ℕ) (G : Before A) (f : List Lexeme → Read A) → Reads r n G f → (x : A) (ls ks : List Lexeme) (l : Lexeme) (rest : List Lexeme)
    → G x ls (head ks l) → r.Fits n ls → f ((ls ++ ks) ++ l ∷ rest) ≡ Ok (x, ks ++ l ∷ rest)
reads_on r n G f reads x ls ks l rest g fits =
    let e : (ls ++ ks) ++ l ∷ rest ≡ ls ++ head ks l ∷ tail ks l rest = append_assoc ls ks (l ∷ rest) ∙ ap (λ z. ls ++ z) (head-tail ks l rest) in
    ap f e ∙ reads x ls (head ks l) (tail ks l rest) g fits ∙ ap (λ z. Ok (x, z)) (sym (head-tail ks l rest))
