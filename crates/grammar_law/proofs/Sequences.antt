-- Functions that read one thing and then another.
use Rattle.std.proofs.Common.{◌≡◌, ℕ, List, ◌∷◌, ◌++◌, Ok, Err, refl, sym, ap, ◌∙◌, subst, append_assoc}
use Rattle.policy_tokens.specs.declared.fault.PolicyFault.{PolicyFault}
use Rattle.policy_grammar.specs.declared.lexeme.Lexeme.{Lexeme}
use Rattle.policy_grammar.specs.Reading.{Read, after}
use Rattle.net_base.specs.Steps.{◌>>=◌}
use Rattle.net_base.proofs.StepLemmas.{bind_ok}
use Rattle.grammar_law.specs.Grammar.{Rule}
use Rattle.grammar_law.proofs.Readers.{Before, head, Room, Balanced, Reads, WasRead, Sound, Stop, Stops, HasOne, Known, Exact, reads_on}
use Rattle.grammar_law.proofs.Readers.{stop_as, all_on, by_on, ended_after, front_fits, left_fits}

abbrev pub Then : {A B : Type 0} → Before A → (A → Before B) → Before B
Then {A} G H y ls l = (x : A) × (front back : List Lexeme) × (ls ≡ front ++ back) × G x front (head back l) × H x y back l

abbrev pub ThenPlain : {A B : Type 0} → Rule A → (A → Rule B) → Rule B
ThenPlain {A} C D y ls = (x : A) × (front back : List Lexeme) × (ls ≡ front ++ back) × C x front × D x y back

abbrev pub then : {A B : Type 0} → (List Lexeme → Read A) → (A → List Lexeme → Read B) → List Lexeme → Read B
then f g ls = f ls >>= λ x. g x.0 x.1

pub then-reads : {A B : Type 0} (r : Room) (n : ℕ) (G : Before A) (H : A → Before B) (f : List Lexeme → Read A) (g : A → List Lexeme → Read B)
    → Balanced r G → Reads r n G f → ((x : A) → Reads r n (H x) (g x)) → Reads r n (Then G H) (then f g)
then-reads r n G H f g balanced fr gr y ls l rest t fits =
    let fits' = subst (r.Fits n) t.3 fits in
    let first : f (ls ++ l ∷ rest) ≡ Ok (t.0, t.2 ++ l ∷ rest) = ap (λ z. f (z ++ l ∷ rest)) t.3 ∙ reads_on r n G f fr t.0 t.1 t.2 l rest t.4 (r.front n t.1 t.2 fits') in
    ap (λ z. z >>= λ x. g x.0 x.1) first ∙ gr t.0 y t.2 l rest t.5 (balanced n t.0 t.1 t.2 (head t.2 l) t.4 fits')

pub then-sound : {A B : Type 0} (G : Before A) (H : A → Before B) (f : List Lexeme → Read A) (g : A → List Lexeme → Read B)
    → Sound G f → ((x : A) → Sound (H x) (g x)) → Sound (Then G H) (then f g)
then-sound {A} {B} G H f g fs gs ls y after ended h =
    let p = bind_ok (f ls) (λ x. g x.0 x.1) (y, after) h in
    let w = fs ls p.0.0 p.0.1 ended p.1 in
    let v = gs p.0.0 p.0.1 y after (ended_after w) p.2 in
    record {
      front = w.front ++ v.front;
      next = v.next;
      rest = v.rest;
      all = all_on w v.front v.next v.rest v.all;
      left = v.left;
      by = (p.0.0, w.front, v.front, refl, by_on w v.front v.next v.rest v.all, v.by);
      ended = v.ended;
    }

-- the first thing isn't there
first_stops : {A B : Type 0} (C : Rule A) (D : A → Rule B) (n : ℕ) (f : ℕ → List Lexeme → Read A) (g : A → ℕ → List Lexeme → Read B) (ls : List Lexeme) (e : PolicyFault)
    → ((x : A) → HasOne (D x)) → Stop C n f ls e → Stop (ThenPlain C D) n (λ m. then (f m) (λ x. g x m)) ls e
first_stops C D n f g ls e some s =
    let d = some s.thing in
    stop_as s (λ m other le. rw (s.always m other le) refl) d.0 (s.back ++ d.1) (s.thing, s.front ++ s.back, d.1, sym (append_assoc s.front s.back d.1), s.whole, d.2)

-- the first thing is there, and the second one isn't
second_stops : {A B : Type 0} (r : Room) (G : Before A) (C : Rule A) (D : A → Rule B) (n : ℕ) (f : ℕ → List Lexeme → Read A)
    (g : A → ℕ → List Lexeme → Read B) (ls : List Lexeme) (e : PolicyFault) (x : A) (mid : List Lexeme)
    → Known r G C f → r.Fits n ls → WasRead G ls x mid → Stop (D x) n (g x) mid e → Stop (ThenPlain C D) n (λ m. then (f m) (λ x. g x m)) ls e
second_stops r G C D n f g ls e x mid k fits w s =
    record {
      front = w.front ++ s.front;
      here = s.here;
      rest = s.rest;
      all = all_on w s.front s.here s.rest s.all;
      fault = s.fault;
      always = λ m other le.
          ap (λ z. z >>= λ x. g x.0 m x.1)
          (reads_on r m G (f m) (k.reads m) x w.front s.front s.here other (by_on w s.front s.here s.rest s.all) (r.more n m w.front le (front_fits r n w fits)))
          ∙ s.always m other le;
      back = s.back;
      thing = s.thing;
      whole = (x, w.front, s.front ++ s.back, append_assoc w.front s.front s.back, k.plain x w.front w.next w.by, s.whole);
    }

pub then-stops : {A B : Type 0} (r : Room) (n : ℕ) (G : Before A) (C : Rule A) (D : A → Rule B) (f : ℕ → List Lexeme → Read A) (g : A → ℕ → List Lexeme → Read B)
    → Known r G C f → Stops r C n f → ((x : A) → HasOne (D x)) → ((x : A) → Stops r (D x) n (g x)) → Stops r (ThenPlain C D) n (λ m. then (f m) (λ x. g x m))
then-stops {A} {B} r n G C D f g k fstops some gstops ls e ended fits h = by (f n ls) refl
  where
    by : (read : Read A) → f n ls ≡ read → Stop (ThenPlain C D) n (λ m. then (f m) (λ x. g x m)) ls e
    by (Err d) is = first_stops C D n f g ls e some (fstops ls e ended fits (cc (h, is)))
    by (Ok p) is =
        let w = k.sound n ls p.0 p.1 ended is in
        let second : g p.0 n p.1 ≡ Err e = sym (ap (λ z. z >>= λ x. g x.0 n x.1) is) ∙ h in
        second_stops r G C D n f g ls e p.0 p.1 k fits w (gstops p.0 p.1 e (ended_after w) (left_fits r n k.balanced w fits) second)

pub then-balanced : {A B : Type 0} (r : Room) (G : Before A) (H : A → Before B) → Balanced r G → ((x : A) → Balanced r (H x)) → Balanced r (Then G H)
then-balanced r G H bg bh n y ls ms l t fits =
    let fits' = subst (r.Fits n) (ap (λ z. z ++ ms) t.3 ∙ append_assoc t.1 t.2 ms) fits in
    bh t.0 n y t.2 ms l t.5 (bg n t.0 t.1 (t.2 ++ ms) (head t.2 l) t.4 fits')

then-plain : {A B : Type 0} (G : Before A) (H : A → Before B) (C : Rule A) (D : A → Rule B) → ((x : A) (ls : List Lexeme) (l : Lexeme) → G x ls l → C x ls)
    → ((x : A) (y : B) (ls : List Lexeme) (l : Lexeme) → H x y ls l → D x y ls) → (y : B) (ls : List Lexeme) (l : Lexeme) → Then G H y ls l → ThenPlain C D y ls
then-plain G H C D gc hd y ls l t = (t.0, t.1, t.2, t.3, gc t.0 t.1 (head t.2 l) t.4, hd t.0 y t.2 l t.5)

then-some : {A B : Type 0} (C : Rule A) (D : A → Rule B) → HasOne C → ((x : A) → HasOne (D x)) → HasOne (ThenPlain C D)
then-some C D c d = let e = d c.0 in (e.0, c.1 ++ e.1, (c.0, c.1, e.1, refl, c.2, e.2))

pub then-known : {A B : Type 0} (r : Room) (G : Before A) (C : Rule A) (H : A → Before B) (D : A → Rule B) (f : ℕ → List Lexeme → Read A) (g : A → ℕ → List Lexeme → Read B)
    → Known r G C f → ((x : A) → Known r (H x) (D x) (g x)) → Known r (Then G H) (ThenPlain C D) (λ n. then (f n) (λ x. g x n))
then-known r G C H D f g a b = record {
  plain = then-plain G H C D a.plain (λ x. (b x).plain);
  balanced = then-balanced r G H a.balanced (λ x. (b x).balanced);
  some = then-some C D a.some (λ x. (b x).some);
  reads = λ n. then-reads r n G H (f n) (λ x. g x n) a.balanced (a.reads n) (λ x. (b x).reads n);
  sound = λ n. then-sound G H (f n) (λ x. g x n) (a.sound n) (λ x. (b x).sound n);
}

-- one thing and then another
pub in_turn : {A B : Type 0} (r : Room) (G : Before A) (C : Rule A) (H : A → Before B) (D : A → Rule B) (f : ℕ → List Lexeme → Read A) (g : A → ℕ → List Lexeme → Read B)
    → Exact r G C f → ((x : A) → Exact r (H x) (D x) (g x)) → Exact r (Then G H) (ThenPlain C D) (λ n. then (f n) (λ x. g x n))
in_turn r G C H D f g a b = record {
  known = then-known r G C H D f g a.known (λ x. (b x).known);
  stops = λ n. then-stops r n G C D f g a.known (a.stops n) (λ x. (b x).known.some) (λ x. (b x).stops n);
}
