-- Functions that choose by the first token, or want one.
use Rattle.std.proofs.Common.{◌≡◌, ℕ, ◌⊎◌, inl, inr, List, [], ◌∷◌, ◌++◌, Ok, Err, refl, sym, ap, ◌∙◌, subst}
use Rattle.std.proofs.Math.Path.{fun_ext}
use Rattle.policy_grammar.specs.declared.lexeme.Lexeme.{Lexeme}
use Rattle.policy_grammar.specs.declared.symbol.Symbol.{Symbol}
use Rattle.policy_grammar.specs.declared.symbol.Symbol.TheVariants.{EndOfText}
use Rattle.policy_grammar.specs.Reading.{Read, first_of, after, past, either}
use Rattle.net_base.specs.Steps.{◌>>=◌}
use Rattle.grammar_law.specs.Grammar.{Is, Rule}
use Rattle.grammar_law.proofs.Lookups.{Differ, Isnt, is_or_isnt, past-is, past-isnt}
use Rattle.grammar_law.proofs.Readers.{Before, head, tail, head-tail, head_is, ended_behind, Room, Passes, Balanced, Reads, WasRead, Sound, Stop, Stops, Known, Exact}
use Rattle.grammar_law.proofs.Readers.{was_read_as, was_read_behind, stop_as, stop_behind}
use Rattle.grammar_law.proofs.Tokens.{Token, OneToken, token}
use Rattle.grammar_law.proofs.Sequences.{Then, ThenPlain, then, in_turn}

-- the same function, and a relation that holds of more
pub exact_same : {A : Type 0} (r : Room) (G : Before A) (C : Rule A) (f g : ℕ → List Lexeme → Read A) → ((n : ℕ) (ls : List Lexeme) → f n ls ≡ g n ls) → Exact r G C f → Exact r G C g
exact_same r G C f g e x = subst (Exact r G C) (fun_ext (λ n. fun_ext (λ ls. e n ls))) x

same_after : {B : Type 0} (read : Read Lexeme) (g : List Lexeme → Read B) → (read >>= λ x. g x.1) ≡ ((read >>= λ x. Ok x.1) >>= g)
same_after (Ok x) g = refl
same_after (Err e) g = refl

-- what follows a token
pub behind : {B : Type 0} (r : Room) (s : Symbol) (H : Before B) (D : Rule B) (g : ℕ → List Lexeme → Read B) → Passes r s → Differ s EndOfText → Exact r H D g
    → Exact r (Then (Token s) (λ t. H)) (ThenPlain (OneToken s) (λ t. D)) (λ n ls. after s ls >>= g n)
behind r s H D g passes d x =
    exact_same r (Then (Token s) (λ t. H)) (ThenPlain (OneToken s) (λ t. D)) (λ n. then (first_of s) (λ t. g n)) (λ n ls. after s ls >>= g n) (λ n ls. same_after (first_of s ls) (g n))
    (in_turn r (Token s) (OneToken s) (λ t. H) (λ t. D) (λ n. first_of s) (λ t. g) (token r s passes d) (λ t. x))

-- one thing behind a token, and another where the token isn't there
abbrev pub Choose : {A : Type 0} → Symbol → (Lexeme → Before A) → Before A → Before A
Choose s F G x ls l = ((t : Lexeme) × (back : List Lexeme) × (ls ≡ t ∷ back) × Is s t × F t x back l) ⊎ (G x ls l × Isnt s (head ls l))

abbrev pub ChoosePlain : {A : Type 0} → Symbol → (Lexeme → Rule A) → Rule A → Rule A
ChoosePlain s C D x ls = ((t : Lexeme) × (back : List Lexeme) × (ls ≡ t ∷ back) × Is s t × C t x back) ⊎ D x ls

abbrev pub choose : {A : Type 0} → Symbol → (Lexeme → List Lexeme → Read A) → (List Lexeme → Read A) → List Lexeme → Read A
choose s f g ls = either (past s ls) (λ l rest. f l rest) (g ls)

pub choose-is : {A : Type 0} (s : Symbol) (f : Lexeme → List Lexeme → Read A) (g : List Lexeme → Read A) (l : Lexeme) (ls : List Lexeme) → Is s l → choose s f g (l ∷ ls) ≡ f l ls
choose-is s f g l ls i = ap (λ o. either o (λ l rest. f l rest) (g (l ∷ ls))) (past-is s l ls i)

pub choose-isnt : {A : Type 0} (s : Symbol) (f : Lexeme → List Lexeme → Read A) (g : List Lexeme → Read A) (ls : List Lexeme) (l : Lexeme) (rest : List Lexeme)
    → Isnt s (head ls l) → choose s f g (ls ++ l ∷ rest) ≡ g (ls ++ l ∷ rest)
choose-isnt s f g ls l rest i =
    ap (λ o. either o (λ l rest. f l rest) (g (ls ++ l ∷ rest))) (ap (past s) (head-tail ls l rest) ∙ past-isnt s (head ls l) (tail ls l rest) i)

pub choose-reads : {A : Type 0} (r : Room) (n : ℕ) (s : Symbol) (F : Lexeme → Before A) (G : Before A) (f : Lexeme → List Lexeme → Read A) (g : List Lexeme → Read A)
    → Passes r s → ((t : Lexeme) → Reads r n (F t) (f t)) → Reads r n G g → Reads r n (Choose s F G) (choose s f g)
choose-reads r n s F G f g passes fr gr x ls l rest (inl t) fits =
    ap (λ z. choose s f g (z ++ l ∷ rest)) t.2 ∙ choose-is s f g t.0 (t.1 ++ l ∷ rest) t.3
    ∙ fr t.0 x t.1 l rest t.4 (passes n t.0 t.1 t.3 (subst (r.Fits n) t.2 fits))
choose-reads r n s F G f g passes fr gr x ls l rest (inr t) fits = choose-isnt s f g ls l rest t.1 ∙ gr x ls l rest t.0 fits

pub choose-sound : {A : Type 0} (s : Symbol) (F : Lexeme → Before A) (G : Before A) (f : Lexeme → List Lexeme → Read A) (g : List Lexeme → Read A)
    → Differ s EndOfText → ((t : Lexeme) → Sound (F t) (f t)) → Sound G g → Sound (Choose s F G) (choose s f g)
choose-sound s F G f g d fs gs [] x after ended h = absurd ended
choose-sound s F G f g d fs gs (l ∷ ls) x after ended h = by (is_or_isnt s l)
  where
    by : Is s l ⊎ Isnt s l → WasRead (Choose s F G) (l ∷ ls) x after
    by (inl i) =
        let w = fs l ls x after (ended_behind s l ls d i ended) (sym (choose-is s f g l ls i) ∙ h) in
        was_read_behind l w (inl (l, w.front, refl, i, w.by))
    by (inr i) =
        let w = gs (l ∷ ls) x after ended (sym (choose-isnt s f g [] l ls i) ∙ h) in
        was_read_as w (inr (w.by, subst (Isnt s) (head_is w.front w.next l w.rest ls w.all) i))

pub choose-stops : {A : Type 0} (r : Room) (n : ℕ) (s : Symbol) (C : Lexeme → Rule A) (D : Rule A) (f : Lexeme → ℕ → List Lexeme → Read A) (g : ℕ → List Lexeme → Read A)
    → Passes r s → Differ s EndOfText → ((t : Lexeme) → Stops r (C t) n (f t)) → Stops r D n g → Stops r (ChoosePlain s C D) n (λ m. choose s (λ t. f t m) (g m))
choose-stops r n s C D f g passes d fs gs [] e ended fits h = absurd ended
choose-stops r n s C D f g passes d fs gs (l ∷ ls) e ended fits h = by (is_or_isnt s l)
  where
    by : Is s l ⊎ Isnt s l → Stop (ChoosePlain s C D) n (λ m. choose s (λ t. f t m) (g m)) (l ∷ ls) e
    by (inl i) =
        let w = fs l ls e (ended_behind s l ls d i ended) (passes n l ls i fits) (sym (choose-is s (λ t. f t n) (g n) l ls i) ∙ h) in
        stop_behind l w (λ m other le. choose-is s (λ t. f t m) (g m) l (w.front ++ w.here ∷ other) i ∙ w.always m other le) (inl (l, w.front ++ w.back, refl, i, w.whole))
    by (inr i) =
        let w = gs (l ∷ ls) e ended fits (sym (choose-isnt s (λ t. f t n) (g n) [] l ls i) ∙ h) in
        let first = subst (Isnt s) (head_is w.front w.here l w.rest ls w.all) i in
        stop_as w (λ m other le. choose-isnt s (λ t. f t m) (g m) w.front w.here other first ∙ w.always m other le) w.thing w.back (inr w.whole)

choose-plain : {A : Type 0} (s : Symbol) (F : Lexeme → Before A) (G : Before A) (C : Lexeme → Rule A) (D : Rule A)
    → ((t : Lexeme) (x : A) (ls : List Lexeme) (l : Lexeme) → F t x ls l → C t x ls) → ((x : A) (ls : List Lexeme) (l : Lexeme) → G x ls l → D x ls)
    → (x : A) (ls : List Lexeme) (l : Lexeme) → Choose s F G x ls l → ChoosePlain s C D x ls
choose-plain s F G C D fc gd x ls l (inl t) = inl (t.0, t.1, t.2, t.3, fc t.0 x t.1 l t.4)
choose-plain s F G C D fc gd x ls l (inr t) = inr (gd x ls l t.0)

pub choose-balanced : {A : Type 0} (r : Room) (s : Symbol) (F : Lexeme → Before A) (G : Before A) → Passes r s → ((t : Lexeme) → Balanced r (F t)) → Balanced r G → Balanced r (Choose s F G)
choose-balanced r s F G passes fb gb n x ls ms l (inl t) fits = fb t.0 n x t.1 ms l t.4 (passes n t.0 (t.1 ++ ms) t.3 (subst (λ z. r.Fits n (z ++ ms)) t.2 fits))
choose-balanced r s F G passes fb gb n x ls ms l (inr t) fits = gb n x ls ms l t.0 fits

pub choose-known : {A : Type 0} (r : Room) (s : Symbol) (F : Lexeme → Before A) (G : Before A) (C : Lexeme → Rule A) (D : Rule A) (f : Lexeme → ℕ → List Lexeme → Read A) (g : ℕ → List Lexeme → Read A)
    → Passes r s → Differ s EndOfText → ((t : Lexeme) → Known r (F t) (C t) (f t)) → Known r G D g
    → Known r (Choose s F G) (ChoosePlain s C D) (λ n. choose s (λ t. f t n) (g n))
choose-known r s F G C D f g passes d a b = record {
  plain = choose-plain s F G C D (λ t. (a t).plain) b.plain;
  balanced = choose-balanced r s F G passes (λ t. (a t).balanced) b.balanced;
  some = (b.some.0, b.some.1, inr b.some.2);
  reads = λ n. choose-reads r n s F G (λ t. f t n) (g n) passes (λ t. (a t).reads n) (b.reads n);
  sound = λ n. choose-sound s F G (λ t. f t n) (g n) d (λ t. (a t).sound n) (b.sound n);
}

-- one of two things, as a token is there or not
pub one_of : {A : Type 0} (r : Room) (s : Symbol) (F : Lexeme → Before A) (G : Before A) (C : Lexeme → Rule A) (D : Rule A) (f : Lexeme → ℕ → List Lexeme → Read A) (g : ℕ → List Lexeme → Read A)
    → Passes r s → Differ s EndOfText → ((t : Lexeme) → Exact r (F t) (C t) (f t)) → Exact r G D g
    → Exact r (Choose s F G) (ChoosePlain s C D) (λ n. choose s (λ t. f t n) (g n))
one_of r s F G C D f g passes d a b = record {
  known = choose-known r s F G C D f g passes d (λ t. (a t).known) b.known;
  stops = λ n. choose-stops r n s C D f g passes d (λ t. (a t).stops n) (b.stops n);
}
