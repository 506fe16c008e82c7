-- Functions that read one link after the other, as long as a joint comes.
use Rattle.std.proofs.Common.{◌≡◌, ℕ, zero, suc, ◌≤◌, ◌⊎◌, inl, inr, List, [], ◌∷◌, ◌++◌, length, length-append, Ok, Err, refl, sym, ap, ◌∙◌, subst, append_assoc, append-nil, le_refl, arith}
use Rattle.policy_tokens.specs.declared.fault.PolicyFault.{PolicyFault}
use Rattle.policy_tokens.specs.declared.fault.PolicyFault.TheVariants.{Syntax}
use Rattle.policy_grammar.specs.declared.lexeme.Lexeme.{Lexeme}
use Rattle.policy_grammar.specs.declared.symbol.Symbol.{Symbol}
use Rattle.policy_grammar.specs.declared.symbol.Symbol.TheVariants.{EndOfText}
use Rattle.policy_grammar.specs.Reading.{Read, either, chain}
use Rattle.net_base.specs.Steps.{◌>>=◌}
use Rattle.net_base.proofs.StepLemmas.{bind_ok}
use Rattle.grammar_law.specs.Grammar.{Is, Rule}
use Rattle.grammar_law.proofs.Lookups.{Differ, Isnt, is_or_isnt, past-is, past-isnt}
use Rattle.grammar_law.proofs.Readers.{Before, head, head-append, Ended, ended_behind, read_same, Room, Passes, Balanced, Reads, WasRead, Sound, Stop, Stops, Known, Exact, reads_on}
use Rattle.grammar_law.proofs.Readers.{all_on, by_on, ended_after, front_fits, left_fits}

-- links from one state to another, before a token
pub data Links {A : Type 0} (joint : Symbol) (Link : Lexeme → A → Before A) (l : Lexeme) : A → A → List Lexeme → Type 0 where
  none : {x : A} → Links joint Link l x x []
  more : {x y z : A} {j : Lexeme} {ks ls : List Lexeme} → Is joint j → Link j x y ks (head ls l) → Links joint Link l y z ls → Links joint Link l x z (j ∷ ks ++ ls)

pub data Linked {A : Type 0} (joint : Symbol) (Link : Lexeme → A → Rule A) : A → A → List Lexeme → Type 0 where
  none : {x : A} → Linked joint Link x x []
  more : {x y z : A} {j : Lexeme} {ks ls : List Lexeme} → Is joint j → Link j x y ks → Linked joint Link y z ls → Linked joint Link x z (j ∷ ks ++ ls)

-- links, and then no joint
abbrev pub Chained : {A : Type 0} → Symbol → (Lexeme → A → Before A) → A → Before A
Chained joint Link x y ls l = Links joint Link l x y ls × Isnt joint l

-- a function that reads a link
abbrev pub Linker : Type 0 → Type 0
Linker A = Lexeme → A → List Lexeme → Read A

chain_here : {A : Type 0} (joint : Symbol) (link : Linker A) (c : ℕ) (x : A) (j : Lexeme) (ls : List Lexeme) → Is joint j → length (j ∷ ls) ≤ c
    → (d : ℕ) × (c ≡ suc d) × (chain joint link c x (j ∷ ls) ≡ (link j x ls >>= λ p. chain joint link d p.0 p.1))
unfolding chain
chain_here joint link zero x j ls i le = absurd (omega arith)
chain_here joint link (suc d) x j ls i le = (d, refl, ap (λ o. either o (λ l rest. link l x rest >>= λ p. chain joint link d p.0 p.1) (Ok (x, j ∷ ls))) (past-is joint j ls i))

chain_over : {A : Type 0} (joint : Symbol) (link : Linker A) (c : ℕ) (x : A) (l : Lexeme) (ls : List Lexeme) → Isnt joint l → chain joint link c x (l ∷ ls) ≡ Ok (x, l ∷ ls)
unfolding chain
chain_over joint link zero x l ls i = refl
chain_over joint link (suc c) x l ls i = ap (λ o. either o (λ l rest. link l x rest >>= λ p. chain joint link c p.0 p.1) (Ok (x, l ∷ ls))) (past-isnt joint l ls i)

links-read : {A : Type 0} (r : Room) (n : ℕ) (joint : Symbol) (Link : Lexeme → A → Before A) (link : Linker A)
    → Passes r joint → ((j : Lexeme) (x : A) → Balanced r (Link j x)) → ((j : Lexeme) (x : A) → Reads r n (Link j x) (link j x))
    → (l : Lexeme) (rest : List Lexeme) → Isnt joint l → {x y : A} {ls : List Lexeme} → Links joint Link l x y ls → r.Fits n ls
    → (c : ℕ) → length (ls ++ l ∷ rest) ≤ c → chain joint link c x (ls ++ l ∷ rest) ≡ Ok (y, l ∷ rest)
links-read r n joint Link link passes lb lr l rest over (none {x = x}) fits c le = chain_over joint link c x l rest over
links-read r n joint Link link passes lb lr l rest over (more {x = x} {y = y} {z = z} {j = j} {ks = ks} {ls = ls} i link_is links) fits c le =
    let fits' = passes n j (ks ++ ls) i fits in
    let step = chain_here joint link c x j ((ks ++ ls) ++ l ∷ rest) i le in
    let first = reads_on r n (Link j x) (link j x) (lr j x) y ks ls l rest link_is (r.front n ks ls fits') in
    let shorter : length (ls ++ l ∷ rest) ≤ step.0 = omega (arith, le, step.1, ap length (append_assoc ks ls (l ∷ rest)), length-append ks (ls ++ l ∷ rest)) in
    step.2 ∙ ap (λ z. z >>= λ p. chain joint link step.0 p.0 p.1) first
    ∙ links-read r n joint Link link passes lb lr l rest over links (lb j x n y ks ls (head ls l) link_is fits') step.0 shorter

links-sound : {A : Type 0} (joint : Symbol) (Link : Lexeme → A → Before A) (link : Linker A)
    → Differ joint EndOfText → ((j : Lexeme) (x : A) → Sound (Link j x) (link j x))
    → (c : ℕ) (x : A) (ls : List Lexeme) (y : A) (after : List Lexeme) → length ls ≤ c → Ended ls → chain joint link c x ls ≡ Ok (y, after) → WasRead (Chained joint Link x) ls y after
links-sound joint Link link d sound c x [] y after le ended h = absurd ended
links-sound joint Link link d sound zero x (l ∷ ls) y after le ended h = absurd (omega arith)
links-sound {A} joint Link link d sound (suc c) x (l ∷ ls) y after le ended h = by (is_or_isnt joint l)
    (λ mid z short ended h. links-sound joint Link link d sound c z mid y after short ended h)
  where
    by : Is joint l ⊎ Isnt joint l
        → ((mid : List Lexeme) (z : A) → length mid ≤ c → Ended mid → chain joint link c z mid ≡ Ok (y, after) → WasRead (Chained joint Link z) mid y after)
        → WasRead (Chained joint Link x) (l ∷ ls) y after
    by (inr i) on =
        let same = read_same x y (l ∷ ls) after (sym (chain_over joint link (suc c) x l ls i) ∙ h) in
        record {
          front = [];
          next = l;
          rest = ls;
          all = refl;
          left = sym same.1;
          by = (subst (λ z. Links joint Link l x z []) same.0 none, i);
          ended = ended;
        }
    by (inl i) on =
        let step = chain_here joint link (suc c) x l ls i le in
        let same : step.0 ≡ c = omega (arith, step.1) in
        let p = bind_ok (link l x ls) (λ p. chain joint link step.0 p.0 p.1) (y, after) (sym step.2 ∙ h) in
        let w = sound l x ls p.0.0 p.0.1 (ended_behind joint l ls d i ended) p.1 in
        let short : length p.0.1 ≤ c = omega (arith, le, ap length w.all, ap length w.left, length-append w.front (w.next ∷ w.rest)) in
        let v = on p.0.1 p.0.0 short (ended_after w) (subst (λ k. chain joint link k p.0.0 p.0.1 ≡ Ok (y, after)) same p.2) in
        record {
          front = l ∷ w.front ++ v.front;
          next = v.next;
          rest = v.rest;
          all = ap (λ z. l ∷ z) (all_on w v.front v.next v.rest v.all);
          left = v.left;
          by = (more i (by_on w v.front v.next v.rest v.all) v.by.0, v.by.1);
          ended = v.ended;
        }

-- a stop inside a chain, whatever it counts down from
record Halt {A : Type 0} (joint : Symbol) (C : Lexeme → A → Rule A) (n : ℕ) (link : Lexeme → A → ℕ → List Lexeme → Read A) (x : A) (ls : List Lexeme) (e : PolicyFault) : Type 0 where
  front : List Lexeme
  here : Lexeme
  rest : List Lexeme
  all : ls ≡ front ++ here ∷ rest
  fault : e ≡ Syntax here.place
  always : (m c : ℕ) (other : List Lexeme) → n ≤ m → length (front ++ here ∷ other) ≤ c → chain joint (λ j y. link j y m) c x (front ++ here ∷ other) ≡ Err e
  back : List Lexeme
  thing : A
  whole : Linked joint C x thing (front ++ back)

-- the first link isn't there
first_halts : {A : Type 0} (joint : Symbol) (C : Lexeme → A → Rule A) (link : Lexeme → A → ℕ → List Lexeme → Read A) (n : ℕ) (x : A) (j : Lexeme) (ls : List Lexeme) (e : PolicyFault)
    → Is joint j → Stop (C j x) n (link j x) ls e → Halt joint C n link x (j ∷ ls) e
first_halts joint C link n x j ls e i s = record {
  front = j ∷ s.front;
  here = s.here;
  rest = s.rest;
  all = ap (λ z. j ∷ z) s.all;
  fault = s.fault;
  always = λ m c other le short.
      let step = chain_here joint (λ j y. link j y m) c x j (s.front ++ s.here ∷ other) i short in
      step.2 ∙ ap (λ z. z >>= λ p. chain joint (λ j y. link j y m) step.0 p.0 p.1) (s.always m other le);
  back = s.back;
  thing = s.thing;
  whole = subst (λ z. Linked joint C x s.thing (j ∷ z)) (append-nil (s.front ++ s.back)) (more i s.whole none);
}

-- the first link is there, and a later one isn't
later_halts : {A : Type 0} (r : Room) (joint : Symbol) (Link : Lexeme → A → Before A) (C : Lexeme → A → Rule A)
    (link : Lexeme → A → ℕ → List Lexeme → Read A) (n : ℕ) (x y : A) (j : Lexeme) (ls mid : List Lexeme) (e : PolicyFault)
    → Is joint j → Known r (Link j x) (C j x) (link j x) → r.Fits n ls → WasRead (Link j x) ls y mid → Halt joint C n link y mid e → Halt joint C n link x (j ∷ ls) e
later_halts r joint Link C link n x y j ls mid e i known room w t =
    let by = by_on w t.front t.here t.rest t.all in
    let fits = front_fits r n w room in
    record {
      front = j ∷ w.front ++ t.front;
      here = t.here;
      rest = t.rest;
      all = ap (λ z. j ∷ z) (all_on w t.front t.here t.rest t.all);
      fault = t.fault;
      always = λ m c other le short.
          let step = chain_here joint (λ j y. link j y m) c x j ((w.front ++ t.front) ++ t.here ∷ other) i short in
          let shorter : length (t.front ++ t.here ∷ other) ≤ step.0 =
          omega (arith, short, step.1, ap length (append_assoc w.front t.front (t.here ∷ other)), length-append w.front (t.front ++ t.here ∷ other))
          in
          step.2 ∙ ap (λ z. z >>= λ p. chain joint (λ j y. link j y m) step.0 p.0 p.1)
          (reads_on r m (Link j x) (link j x m) (known.reads m) y w.front t.front t.here other by (r.more n m w.front le fits))
          ∙ t.always m step.0 other le shorter;
      back = t.back;
      thing = t.thing;
      whole = subst (λ z. Linked joint C x t.thing (j ∷ z)) (sym (append_assoc w.front t.front t.back)) (more i (known.plain y w.front w.next w.by) t.whole);
    }

links-halt : {A : Type 0} (r : Room) (n : ℕ) (joint : Symbol) (Link : Lexeme → A → Before A) (C : Lexeme → A → Rule A) (link : Lexeme → A → ℕ → List Lexeme → Read A)
    → Passes r joint → Differ joint EndOfText → ((j : Lexeme) (x : A) → Known r (Link j x) (C j x) (link j x)) → ((j : Lexeme) (x : A) → Stops r (C j x) n (link j x))
    → (c : ℕ) (x : A) (ls : List Lexeme) (e : PolicyFault) → length ls ≤ c → Ended ls → r.Fits n ls → chain joint (λ j y. link j y n) c x ls ≡ Err e → Halt joint C n link x ls e
links-halt r n joint Link C link passes d known stops c x [] e le ended fits h = absurd ended
links-halt r n joint Link C link passes d known stops zero x (l ∷ ls) e le ended fits h = absurd (omega arith)
links-halt {A} r n joint Link C link passes d known stops (suc c) x (l ∷ ls) e le ended fits h =
    by (λ y mid short ended fits h. links-halt r n joint Link C link passes d known stops c y mid e short ended fits h) (is_or_isnt joint l)
  where
    rest_halts : Is joint l → ((y : A) (mid : List Lexeme) → length mid ≤ c → Ended mid → r.Fits n mid → chain joint (λ j y. link j y n) c y mid ≡ Err e → Halt joint C n link y mid e)
        → Ended ls → r.Fits n ls → (read : Read A) → link l x n ls ≡ read → (read >>= λ p. chain joint (λ j y. link j y n) c p.0 p.1) ≡ Err e → Halt joint C n link x (l ∷ ls) e
    rest_halts i on end room (Err f) is stuck = first_halts joint C link n x l ls e i (stops l x ls e end room (is ∙ stuck))
    rest_halts i on end room (Ok p) is stuck =
        let w = (known l x).sound n ls p.0 p.1 end is in
        let short : length p.1 ≤ c = omega (arith, le, ap length w.all, ap length w.left, length-append w.front (w.next ∷ w.rest)) in
        later_halts r joint Link C link n x p.0 l ls p.1 e i (known l x) room w (on p.0 p.1 short (ended_after w) (left_fits r n (known l x).balanced w room) stuck)

    by : ((y : A) (mid : List Lexeme) → length mid ≤ c → Ended mid → r.Fits n mid → chain joint (λ j y. link j y n) c y mid ≡ Err e → Halt joint C n link y mid e)
        → Is joint l ⊎ Isnt joint l → Halt joint C n link x (l ∷ ls) e
    by on (inr i) = let over = chain_over joint (λ j y. link j y n) (suc c) x l ls i in absurd cc
    by on (inl i) =
        let step = chain_here joint (λ j y. link j y n) (suc c) x l ls i le in
        let same : step.0 ≡ c = omega (arith, step.1) in
        let stuck = subst (λ k. (link l x n ls >>= λ p. chain joint (λ j y. link j y n) k p.0 p.1) ≡ Err e) same (sym step.2 ∙ h) in
        rest_halts i on (ended_behind joint l ls d i ended) (passes n l ls i fits) (link l x n ls) refl stuck

-- a chain from a state on, with as many links as tokens at most
abbrev pub repeat : {A : Type 0} → Symbol → Linker A → A → List Lexeme → Read A
repeat joint link x ls = chain joint link (length ls) x ls

pub links-balanced : {A : Type 0} (r : Room) (joint : Symbol) (Link : Lexeme → A → Before A) → Passes r joint → ((j : Lexeme) (x : A) → Balanced r (Link j x))
    → (n : ℕ) (l : Lexeme) {x y : A} {ls : List Lexeme} → Links joint Link l x y ls → (ms : List Lexeme) → r.Fits n (ls ++ ms) → r.Fits n ms
links-balanced r joint Link passes lb n l none ms fits = fits
links-balanced r joint Link passes lb n l (more {x = x} {y = y} {j = j} {ks = ks} {ls = ls} i link links) ms fits =
    links-balanced r joint Link passes lb n l links ms
    (lb j x n y ks (ls ++ ms) (head ls l) link (subst (r.Fits n) (append_assoc ks ls ms) (passes n j ((ks ++ ls) ++ ms) i fits)))

pub links-plain : {A : Type 0} (joint : Symbol) (Link : Lexeme → A → Before A) (C : Lexeme → A → Rule A) → ((j : Lexeme) (x y : A) (ls : List Lexeme) (l : Lexeme) → Link j x y ls l → C j x y ls)
    → (l : Lexeme) {x y : A} {ls : List Lexeme} → Links joint Link l x y ls → Linked joint C x y ls
links-plain joint Link C lc l none = none
links-plain joint Link C lc l (more {x = x} {y = y} {j = j} {ks = ks} {ls = ls} i link links) = more i (lc j x y ks (head ls l) link) (links-plain joint Link C lc l links)

pub repeat-reads : {A : Type 0} (r : Room) (n : ℕ) (joint : Symbol) (Link : Lexeme → A → Before A) (link : Linker A)
    → Passes r joint → ((j : Lexeme) (x : A) → Balanced r (Link j x)) → ((j : Lexeme) (x : A) → Reads r n (Link j x) (link j x)) → (x : A) → Reads r n (Chained joint Link x) (repeat joint link x)
repeat-reads r n joint Link link passes lb lr x y ls l rest g fits = links-read r n joint Link link passes lb lr l rest g.1 g.0 fits (length (ls ++ l ∷ rest)) (le_refl (length (ls ++ l ∷ rest)))

pub repeat-sound : {A : Type 0} (joint : Symbol) (Link : Lexeme → A → Before A) (link : Linker A)
    → Differ joint EndOfText → ((j : Lexeme) (x : A) → Sound (Link j x) (link j x)) → (x : A) → Sound (Chained joint Link x) (repeat joint link x)
repeat-sound joint Link link d sound x ls y after ended h = links-sound joint Link link d sound (length ls) x ls y after (le_refl (length ls)) ended h

pub repeat-stops : {A : Type 0} (r : Room) (n : ℕ) (joint : Symbol) (Link : Lexeme → A → Before A) (C : Lexeme → A → Rule A) (link : Lexeme → A → ℕ → List Lexeme → Read A)
    → Passes r joint → Differ joint EndOfText → ((j : Lexeme) (x : A) → Known r (Link j x) (C j x) (link j x)) → ((j : Lexeme) (x : A) → Stops r (C j x) n (link j x))
    → (x : A) → Stops r (Linked joint C x) n (λ m. repeat joint (λ j y. link j y m) x)
repeat-stops r n joint Link C link passes d known stops x ls e ended fits h =
    let t = links-halt r n joint Link C link passes d known stops (length ls) x ls e (le_refl (length ls)) ended fits h in
    record {
      front = t.front;
      here = t.here;
      rest = t.rest;
      all = t.all;
      fault = t.fault;
      always = λ m other le. t.always m (length (t.front ++ t.here ∷ other)) other le (le_refl (length (t.front ++ t.here ∷ other)));
      back = t.back;
      thing = t.thing;
      whole = t.whole;
    }

pub repeat-known : {A : Type 0} (r : Room) (joint : Symbol) (Link : Lexeme → A → Before A) (C : Lexeme → A → Rule A) (link : Lexeme → A → ℕ → List Lexeme → Read A)
    → Passes r joint → Differ joint EndOfText → ((j : Lexeme) (x : A) → Known r (Link j x) (C j x) (link j x))
    → (x : A) → Known r (Chained joint Link x) (Linked joint C x) (λ n. repeat joint (λ j y. link j y n) x)
repeat-known r joint Link C link passes d known x = record {
  plain = λ y ls l g. links-plain joint Link C (λ j x. (known j x).plain) l g.0;
  balanced = λ n y ls ms l g fits. links-balanced r joint Link passes (λ j x. (known j x).balanced) n l g.0 ms fits;
  some = (x, [], none);
  reads = λ n. repeat-reads r n joint Link (λ j y. link j y n) passes (λ j x. (known j x).balanced) (λ j x. (known j x).reads n) x;
  sound = λ n. repeat-sound joint Link (λ j y. link j y n) d (λ j x. (known j x).sound n) x;
}

-- links, as long as a joint comes
pub repeated : {A : Type 0} (r : Room) (joint : Symbol) (Link : Lexeme → A → Before A) (C : Lexeme → A → Rule A) (link : Lexeme → A → ℕ → List Lexeme → Read A)
    → Passes r joint → Differ joint EndOfText → ((j : Lexeme) (x : A) → Exact r (Link j x) (C j x) (link j x))
    → (x : A) → Exact r (Chained joint Link x) (Linked joint C x) (λ n. repeat joint (λ j y. link j y n) x)
repeated r joint Link C link passes d exact x = record {
  known = repeat-known r joint Link C link passes d (λ j x. (exact j x).known) x;
  stops = λ n. repeat-stops r n joint Link C link passes d (λ j x. (exact j x).known) (λ j x. (exact j x).stops n) x;
}

-- one link more at the end
pub links-snoc : {A : Type 0} (joint : Symbol) (Link : Lexeme → A → Before A) (j k : Lexeme) {x y z : A} {ls ms : List Lexeme}
    → Links joint Link j x y ls → Is joint j → Link j y z ms k → Links joint Link k x z (ls ++ j ∷ ms)
links-snoc joint Link j k {z = z} {ms = ms} (none {x = x}) i link =
    subst (λ w. Links joint Link k x z (j ∷ w)) (append-nil ms) (more i link none)
links-snoc joint Link j k {z = z} {ms = ms} (more {x = x} {y = mid} {j = m} {ks = ks} {ls = ls} is first others) i link =
    let first' = subst (Link m x mid ks) (sym (head-append ls (j ∷ ms) k)) first in
    subst (λ w. Links joint Link k x z (m ∷ w)) (sym (append_assoc ks ls (j ∷ ms))) (more is first' (links-snoc joint Link j k others i link))
