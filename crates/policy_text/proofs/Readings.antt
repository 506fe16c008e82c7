-- What is read of given words.
use Rattle.std.proofs.Common.{◌≡◌, ℕ, zero, suc, ◌+◌, ◌≤◌, List, [], ◌∷◌, ◌++◌, length, true, false, Some, None, Ok, refl, sym, ◌∙◌, arith, append_assoc, length-append, append-nil, subst}
use Rattle.std.proofs.lemmas.Bool.{eq-eqb}
use Rattle.std.specs.Prelude.{◌==◌}
use Rattle.std.specs.List.{flat_map, AllByRecursion}
use Rattle.net_base.specs.Steps.{◌>>=◌}
use Rattle.policy_grammar.specs.declared.lexeme.Lexeme.{Lexeme}
use Rattle.policy_grammar.specs.declared.symbol.Symbol.{Symbol}
use Rattle.policy_grammar.specs.declared.symbol.Symbol.TheVariants as symbol
use Rattle.policy_grammar.specs.Symbols.{number_of}
use Rattle.policy_grammar.specs.Reading.{Read, past, first_of, after, either, chain}
use Rattle.policy_text.proofs.Words.{Word, sign, name, figure, IsWord, AreWords}

-- the symbol of a word, and of the first of some
abbrev pub symbol_in : Word → Symbol
symbol_in (sign s) = s
symbol_in (name n) = symbol.Name
symbol_in (figure n) = symbol.Figure

abbrev pub first_symbol : List Word → Symbol
first_symbol [] = symbol.EndOfText
first_symbol (w ∷ ws) = symbol_in w

-- the first word hasn't this symbol
abbrev pub IsPast : Symbol → List Word → Type 0
IsPast s ws = (number_of (first_symbol ws) == number_of s) ≡ false

-- items of two lists belong together, one for one
abbrev pub Pairs : {A B : Type 0} → (A → B → Type 0) → List A → List B → Type 0
Pairs R [] [] = Unit {0}
Pairs R [] (b ∷ bs) = ⊥
Pairs R (a ∷ as') [] = ⊥
Pairs R (a ∷ as') (b ∷ bs) = R a b × Pairs R as' bs

-- what is read is right, and these words are left
pub record Reads {A : Type 0} (bytes : List ℕ) (read : Read A) (IsRight : A → Type 0) (ws : List Word) : Type 0 where
  pub out : A
  pub rest : List Lexeme
  pub is : read ≡ Ok (out, rest)
  pub right : IsRight out
  pub left : AreWords bytes rest ws

pub length-words : (bytes : List ℕ) (ls : List Lexeme) (ws : List Word) → AreWords bytes ls ws → length ls ≡ length ws
length-words bytes [] [] all = refl
length-words bytes [] (w ∷ ws) all = absurd all
length-words bytes (l ∷ ls) [] all = absurd all
length-words bytes (l ∷ ls) (w ∷ ws) all = omega (arith, length-words bytes ls ws all.1)

pub has_symbol : (bytes : List ℕ) (l : Lexeme) (w : Word) → IsWord bytes l w → l.symbol ≡ symbol_in w
has_symbol bytes l (sign s) is = is
has_symbol bytes l (name n) is = is.0
has_symbol bytes l (figure n) is = is.0

-- the first lexeme is passed where it has the symbol
pub past-here : (bytes : List ℕ) (s : Symbol) (l : Lexeme) (ls : List Lexeme) (w : Word) → IsWord bytes l w → (number_of (symbol_in w) == number_of s) ≡ true → past s (l ∷ ls) ≡ Some (l, ls)
past-here bytes s l ls w is same = rw (has_symbol bytes l w is, same) refl

-- and not where it has another
pub past-not : (bytes : List ℕ) (s : Symbol) (ls : List Lexeme) (ws : List Word) → AreWords bytes ls ws → IsPast s ws → past s ls ≡ None
past-not bytes s [] ws all other = refl
past-not bytes s (l ∷ ls) [] all other = absurd all
past-not bytes s (l ∷ ls) (w ∷ ws) all other = rw (has_symbol bytes l w all.0, other) refl

-- the first lexeme, where its word has the symbol
pub Reads-first : (bytes : List ℕ) (s : Symbol) (ls : List Lexeme) (w : Word) (ws : List Word) → AreWords bytes ls (w ∷ ws) → (number_of (symbol_in w) == number_of s) ≡ true
    → Reads bytes (first_of s ls) (λ l. IsWord bytes l w) ws
Reads-first bytes s [] w ws all same = absurd all
Reads-first bytes s (l ∷ ls) w ws all same = record { out = l; rest = ls; is = rw (past-here bytes s l ls w all.0 same) refl; right = all.0; left = all.1 }

-- one of two ways
pub either-here : {A : Type 0} (bytes : List ℕ) (s : Symbol) (l : Lexeme) (ls : List Lexeme) (w : Word) (there : Lexeme → List Lexeme → A) (absent : A)
    → IsWord bytes l w → (number_of (symbol_in w) == number_of s) ≡ true → either (past s (l ∷ ls)) there absent ≡ there l ls
either-here bytes s l ls w there absent is same = rw (past-here bytes s l ls w is same) refl

pub either-not : {A : Type 0} (bytes : List ℕ) (s : Symbol) (ls : List Lexeme) (ws : List Word) (there : Lexeme → List Lexeme → A) (absent : A)
    → AreWords bytes ls ws → IsPast s ws → either (past s ls) there absent ≡ absent
either-not bytes s ls ws there absent all other = rw (past-not bytes s ls ws all other) refl

-- a reader of one part of a chain
abbrev pub ReaderOf : {A B : Type 0} (bytes : List ℕ) → (List Lexeme → Read A) → (B → List Word) → (A → B → Type 0) → (List Word → Type 0) → B → Type 0
ReaderOf bytes reader words R Fits b = (ls : List Lexeme) (ws : List Word) → AreWords bytes ls (words b ++ ws) → Fits ws → Reads bytes (reader ls) (λ a. R a b) ws

-- one link more
abbrev pub linked : {A : Type 0} → (List Lexeme → Read A) → Lexeme → List A → List Lexeme → Read (List A)
linked reader joint so_far ls = reader ls >>= λ x. Ok (so_far ++ x.0 ∷ [], x.1)

abbrev pub with_joint : {B : Type 0} → Symbol → (B → List Word) → B → List Word
with_joint joint words b = sign joint ∷ words b

-- a chain ends where its joint doesn't come, and else goes on with one link
pub chain_done : {A : Type 0} (joint : Symbol) (link : Lexeme → A → List Lexeme → Read A) (n : ℕ) (so_far : A) (ls : List Lexeme)
    → past joint ls ≡ None → chain joint link n so_far ls ≡ Ok (so_far, ls)
unfolding chain
chain_done joint link zero so_far ls none = refl
chain_done joint link (suc n) so_far ls none = rw none refl

pub chain_more : {A : Type 0} (joint : Symbol) (link : Lexeme → A → List Lexeme → Read A) (n : ℕ) (so_far : A) (l : Lexeme) (ls rest : List Lexeme) (a : A)
    → past joint (l ∷ ls) ≡ Some (l, ls) → link l so_far ls ≡ Ok (a, rest) → chain joint link (suc n) so_far (l ∷ ls) ≡ chain joint link n a rest
unfolding chain
chain_more joint link n so_far l ls rest a here is = rw (here, is) refl

pub past-joint : (bytes : List ℕ) (s : Symbol) (l : Lexeme) (ls : List Lexeme) → l.symbol ≡ s → past s (l ∷ ls) ≡ Some (l, ls)
past-joint bytes s l ls is = past-here bytes s l ls (sign s) is (eq-eqb (number_of s) (number_of s) refl)

-- a chain is read whole
module _ {A B : Type 0} (bytes : List ℕ) (joint : Symbol) (reader : List Lexeme → Read A) (words : B → List Word) (R : A → B → Type 0) (Fits : List Word → Type 0)
    (follow : (ws : List Word) → Fits (sign joint ∷ ws)) where
  fits_next : (bs : List B) (ws : List Word) → Fits ws → Fits (flat_map (with_joint joint words) bs ++ ws)
  fits_next [] ws fits = fits
  fits_next (b ∷ bs) ws fits = follow _

  pub Reads-chain : (bs : List B) → AllByRecursion (ReaderOf bytes reader words R Fits) bs → (n : ℕ) (so_far : List A) (ls : List Lexeme) (ws : List Word)
      → AreWords bytes ls (flat_map (with_joint joint words) bs ++ ws) → Fits ws → IsPast joint ws → length ls ≤ n
      → Reads bytes (chain joint (linked reader) n so_far ls) (λ xs. (ys : List A) × (xs ≡ so_far ++ ys) × Pairs R ys bs) ws
  Reads-chain [] all n so_far ls ws are fits other room =
      record { out = so_far; rest = ls; is = chain_done joint (linked reader) n so_far ls (past-not bytes joint ls ws are other); right = ([], sym (append-nil so_far), tt); left = are }
  Reads-chain (b ∷ bs) all n so_far [] ws are fits other room = absurd are
  Reads-chain (b ∷ bs) all zero so_far (l ∷ ls) ws are fits other room = absurd (omega (arith, room))
  Reads-chain (b ∷ bs) all (suc n) so_far (l ∷ ls) ws are fits other room =
      let behind : List Word = flat_map (with_joint joint words) bs ++ ws in
      let here : AreWords bytes ls (words b ++ behind) = subst (λ (w : List Word). AreWords bytes ls w) (append_assoc (words b) (flat_map (with_joint joint words) bs) ws) are.1 in
      let first : Reads bytes (reader ls) (λ a. R a b) behind = all.0 ls behind here (fits_next bs ws fits) in
      let whole : length ls ≡ length (words b) + length behind = length-words bytes ls (words b ++ behind) here ∙ length-append (words b) behind in
      let less : length first.rest ≡ length behind = length-words bytes first.rest behind first.left in
      let more = Reads-chain bs all.1 n (so_far ++ first.out ∷ []) first.rest ws first.left fits other (omega (arith, room, whole, less)) in
      let link : linked reader l so_far ls ≡ Ok (so_far ++ first.out ∷ [], first.rest) = rw first.is refl in
      let step : chain joint (linked reader) (suc n) so_far (l ∷ ls) ≡ chain joint (linked reader) n (so_far ++ first.out ∷ []) first.rest =
      chain_more joint (linked reader) n so_far l ls first.rest (so_far ++ first.out ∷ []) (past-joint bytes joint l ls are.0) link in
      record {
        out = more.out;
        rest = more.rest;
        is = step ∙ more.is;
        right = (first.out ∷ more.right.0, more.right.1 ∙ append_assoc so_far (first.out ∷ []) more.right.0, (first.right, more.right.2));
        left = more.left;
      }

  -- a first part, and a chain of more
  pub Reads-list : (b : B) (bs : List B) → ReaderOf bytes reader words R Fits b → AllByRecursion (ReaderOf bytes reader words R Fits) bs → (ls : List Lexeme) (ws : List Word)
      → AreWords bytes ls (words b ++ flat_map (with_joint joint words) bs ++ ws) → Fits ws → IsPast joint ws
      → Reads bytes (reader ls >>= λ x. chain joint (linked reader) (length x.1) (x.0 ∷ []) x.1) (λ xs. Pairs R xs (b ∷ bs)) ws
  Reads-list b bs first all ls ws are fits other =
      let behind : List Word = flat_map (with_joint joint words) bs ++ ws in
      let one : Reads bytes (reader ls) (λ a. R a b) behind =
      first ls behind (subst (λ (w : List Word). AreWords bytes ls w) (append_assoc (words b) (flat_map (with_joint joint words) bs) ws) are)
      (fits_next bs ws fits) in
      let more = Reads-chain bs all (length one.rest) (one.out ∷ []) one.rest ws one.left fits other (omega arith) in
      record { out = more.out; rest = more.rest; is = rw one.is more.is; right = rw more.right.1 (one.right, more.right.2); left = more.left }

-- what stands behind a lexeme
pub record PassesOn (bytes : List ℕ) (s : Symbol) (ls : List Lexeme) (ws : List Word) : Type 0 where
  pub rest : List Lexeme
  pub is : after s ls ≡ Ok rest
  pub left : AreWords bytes rest ws

pub passes : (bytes : List ℕ) (s : Symbol) (ls : List Lexeme) (w : Word) (ws : List Word) → AreWords bytes ls (w ∷ ws) → (number_of (symbol_in w) == number_of s) ≡ true → PassesOn bytes s ls ws
passes bytes s ls w ws are same = let x = Reads-first bytes s ls w ws are same in record { rest = x.rest; is = rw x.is refl; left = x.left }
