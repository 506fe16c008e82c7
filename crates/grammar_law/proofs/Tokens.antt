-- Functions that read one token, or none.
use Rattle.std.proofs.Common.{◌≡◌, ℕ, ◌⊎◌, inl, inr, List, [], ◌∷◌, ◌++◌, Ok, Err, refl, sym, ap, ◌∙◌, subst}
use Rattle.policy_grammar.specs.declared.lexeme.Lexeme.{Lexeme}
use Rattle.policy_grammar.specs.declared.symbol.Symbol.{Symbol}
use Rattle.policy_grammar.specs.declared.symbol.Symbol.TheVariants.{EndOfText}
use Rattle.policy_grammar.specs.Reading.{Read, refused, first_of}
use Rattle.net_base.specs.Steps.{or_fault}
use Rattle.grammar_law.specs.Grammar.{Is, Rule}
use Rattle.grammar_law.proofs.Lookups.{Differ, is_or_isnt, Isnt, past-is, past-isnt, a_token, a_token-is}
use Rattle.grammar_law.proofs.Readers.{Before, Ended, Room, Passes, Reads, WasRead, Sound, Stop, Stops, Exact, ended_behind, read_same, stop_here}

-- one token of this symbol
abbrev pub Token : Symbol → Before Lexeme
Token s x ls l = (ls ≡ x ∷ []) × Is s x

abbrev pub OneToken : Symbol → Rule Lexeme
OneToken s x ls = (ls ≡ x ∷ []) × Is s x

pub first_of-is : (s : Symbol) (l : Lexeme) (ls : List Lexeme) → Is s l → first_of s (l ∷ ls) ≡ Ok (l, ls)
first_of-is s l ls i = ap (or_fault (refused (l ∷ ls))) (past-is s l ls i)

pub first_of-isnt : (s : Symbol) (l : Lexeme) (ls : List Lexeme) → Isnt s l → first_of s (l ∷ ls) ≡ Err (refused (l ∷ ls))
first_of-isnt s l ls i = ap (or_fault (refused (l ∷ ls))) (past-isnt s l ls i)

token-reads : (r : Room) (s : Symbol) (n : ℕ) → Reads r n (Token s) (first_of s)
token-reads r s n x ls l rest g fits = ap (λ z. first_of s (z ++ l ∷ rest)) g.0 ∙ first_of-is s x (l ∷ rest) g.1

token-sound : (s : Symbol) → Differ s EndOfText → Sound (Token s) (first_of s)
token-sound s d [] x after ended e = absurd ended
token-sound s d (l ∷ ls) x after ended e = by (is_or_isnt s l)
  where
    found : (ls : List Lexeme) (is : first_of s (l ∷ ls) ≡ Ok (l, ls)) → first_of s (l ∷ ls) ≡ Ok (x, after) → Is s l → Ended ls → WasRead (Token s) (l ∷ ls) x after
    found [] is e i rest = absurd rest
    found (k ∷ ls) is e i rest =
        let same = read_same l x (k ∷ ls) after (sym is ∙ e) in
        record { front = l ∷ []; next = k; rest = ls; all = refl; left = sym same.1; by = (ap (λ z. z ∷ []) same.0, subst (Is s) same.0 i); ended = rest }

    by : Is s l ⊎ Isnt s l → WasRead (Token s) (l ∷ ls) x after
    by (inl i) = found ls (first_of-is s l ls i) e i (ended_behind s l ls d i ended)
    by (inr i) = let no = first_of-isnt s l ls i in absurd cc

token-stops : (r : Room) (s : Symbol) (n : ℕ) → Stops r (OneToken s) n (λ m. first_of s)
token-stops r s n [] e ended fits h = absurd ended
token-stops r s n (l ∷ ls) e ended fits h = by (is_or_isnt s l)
  where
    by : Is s l ⊎ Isnt s l → Stop (OneToken s) n (λ m. first_of s) (l ∷ ls) e
    by (inl i) = let yes = first_of-is s l ls i in absurd cc
    by (inr i) =
        let no = first_of-isnt s l ls i in
        let named : e ≡ refused (l ∷ ls) = cc in
        stop_here named (λ m other. first_of-isnt s l other i) (a_token s) (a_token s ∷ []) (refl, a_token-is s)

pub token : (r : Room) (s : Symbol) → Passes r s → Differ s EndOfText → Exact r (Token s) (OneToken s) (λ n. first_of s)
token r s passes d = record {
  known = record {
    plain = λ x ls l g. g;
    balanced = λ n x ls ms l g fits. passes n x ms g.1 (subst (λ z. r.Fits n (z ++ ms)) g.0 fits);
    some = (a_token s, a_token s ∷ [], (refl, a_token-is s));
    reads = token-reads r s;
    sound = λ n. token-sound s d;
  };
  stops = token-stops r s;
}

-- no token
abbrev pub Nothing : {A : Type 0} → A → Before A
Nothing v x ls l = (x ≡ v) × (ls ≡ [])

abbrev pub NoToken : {A : Type 0} → A → Rule A
NoToken v x ls = (x ≡ v) × (ls ≡ [])

abbrev pub nothing : {A : Type 0} → A → List Lexeme → Read A
nothing v ls = Ok (v, ls)

nothing-reads : {A : Type 0} (r : Room) (v : A) (n : ℕ) → Reads r n (Nothing v) (nothing v)
nothing-reads r v n x ls l rest g fits = rw (g.0, g.1) refl

nothing-sound : {A : Type 0} (v : A) → Sound (Nothing v) (nothing v)
nothing-sound v [] x after ended e = absurd ended
nothing-sound v (l ∷ ls) x after ended e =
    let same = read_same v x (l ∷ ls) after e in
    record { front = []; next = l; rest = ls; all = refl; left = sym same.1; by = (sym same.0, refl); ended = ended }

nothing-stops : {A : Type 0} (r : Room) (v : A) (n : ℕ) → Stops r (NoToken v) n (λ m. nothing v)
nothing-stops r v n ls e ended fits h = absurd cc

pub no_token : {A : Type 0} (r : Room) (v : A) → Exact r (Nothing v) (NoToken v) (λ n. nothing v)
no_token r v = record {
  known = record {
    plain = λ x ls l g. g;
    balanced = λ n x ls ms l g fits. subst (λ z. r.Fits n (z ++ ms)) g.1 fits;
    some = (v, [], (refl, refl));
    reads = nothing-reads r v;
    sound = λ n. nothing-sound v;
  };
  stops = nothing-stops r v;
}
