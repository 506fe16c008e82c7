-- Room for brackets.
use Rattle.std.proofs.Common.{◌≡◌, ℕ, zero, suc, ◌+◌, ◌-◌, ◌≤◌, ◌<◌, Bool, true, false, List, [], ◌∷◌, ◌++◌, length, Option, Some, None, if◌then◌else◌, refl, subst, arith, true≢false, leb-false}
use Rattle.std.specs.Prelude.{nat_le}
use Rattle.net_base.specs.declared.place.Place.{Place}
use Rattle.policy_grammar.specs.declared.lexeme.Lexeme.{Lexeme}
use Rattle.policy_grammar.specs.declared.symbol.Symbol.{Symbol}
use Rattle.policy_grammar.specs.declared.symbol.Symbol.TheVariants.{RoundOpen, RoundClose}
use Rattle.policy_grammar.specs.Deep.{open_behind, is_too_deep, first_deep}
use Rattle.grammar_law.specs.Grammar.{Is}
use Rattle.grammar_law.proofs.Readers.{Room, IsFlat}

-- behind a token of this symbol there is room by this rule
abbrev Behind : Symbol → ℕ → (ℕ → Type 0) → Type 0
Behind RoundOpen zero rest = ⊥
Behind RoundOpen (suc n) rest = rest n
Behind RoundClose n rest = rest (suc n)
Behind _ n rest = rest n

-- n brackets more may be opened
abbrev pub Fits : ℕ → List Lexeme → Type 0
Fits n [] = Unit {0}
Fits n (l ∷ ls) = Behind l.symbol n (λ m. Fits m ls)

behind_more : (s : Symbol) (n m : ℕ) (p q : ℕ → Type 0) → n ≤ m → ((a b : ℕ) → a ≤ b → p a → q b) → Behind s n p → Behind s m q
behind_more RoundOpen zero m p q le f h = absurd h
behind_more RoundOpen (suc n) zero p q le f h = absurd (omega arith)
behind_more RoundOpen (suc n) (suc m) p q le f h = f n m (omega arith) h
behind_more RoundClose n m p q le f h = f (suc n) (suc m) (omega arith) h
behind_more _ n m p q le f h = f n m le h

fits_more : (n m : ℕ) (ls : List Lexeme) → n ≤ m → Fits n ls → Fits m ls
fits_more n m [] le fits = tt
fits_more n m (l ∷ ls) le fits = behind_more l.symbol n m (λ k. Fits k ls) (λ k. Fits k ls) le (λ a b le h. fits_more a b ls le h) fits

behind_map : (s : Symbol) (n : ℕ) (p q : ℕ → Type 0) → ((a : ℕ) → p a → q a) → Behind s n p → Behind s n q
behind_map RoundOpen zero p q f h = absurd h
behind_map RoundOpen (suc n) p q f h = f n h
behind_map RoundClose n p q f h = f (suc n) h
behind_map _ n p q f h = f n h

fits_front : (n : ℕ) (ls ms : List Lexeme) → Fits n (ls ++ ms) → Fits n ls
fits_front n [] ms fits = tt
fits_front n (l ∷ ls) ms fits = behind_map l.symbol n (λ k. Fits k (ls ++ ms)) (λ k. Fits k ls) (λ a h. fits_front a ls ms h) fits

behind_flat : (s : Symbol) (n : ℕ) (p : ℕ → Type 0) → IsFlat s → Behind s n p → p n
behind_flat RoundOpen n p flat h = absurd (true≢false flat.0)
behind_flat RoundClose n p flat h = absurd (true≢false flat.1)
behind_flat _ n p flat h = h

fits_passes : (s : Symbol) → IsFlat s → (n : ℕ) (l : Lexeme) (ls : List Lexeme) → Is s l → Fits n (l ∷ ls) → Fits n ls
fits_passes s flat n l ls i fits = behind_flat s n (λ m. Fits m ls) flat (subst (λ u. Behind u n (λ m. Fits m ls)) i.symbol fits)

pub brackets : Room
brackets = record { Fits = Fits; front = fits_front; more = fits_more; passes = fits_passes }

behind_open : (n : ℕ) (p : ℕ → Type 0) → Behind RoundOpen n p → (m : ℕ) × (n ≡ suc m) × p m
behind_open zero p h = absurd h
behind_open (suc n) p h = (n, refl, h)

pub opened : (n : ℕ) (l : Lexeme) (ls : List Lexeme) → Is RoundOpen l → brackets.Fits n (l ∷ ls) → (m : ℕ) × (n ≡ suc m) × brackets.Fits m ls
unfolding brackets
opened n l ls i fits = behind_open n (λ m. Fits m ls) (subst (λ u. Behind u n (λ m. Fits m ls)) i.symbol fits)

pub closed : (n : ℕ) (l : Lexeme) (ls : List Lexeme) → Is RoundClose l → brackets.Fits n (l ∷ ls) → brackets.Fits (suc n) ls
unfolding brackets
closed n l ls i fits = subst (λ u. Behind u n (λ m. Fits m ls)) i.symbol fits

-- ---- enough room

behind_all : (s : Symbol) (n len : ℕ) (p : ℕ → Type 0) → suc len ≤ n → ((m : ℕ) → len ≤ m → p m) → Behind s n p
behind_all RoundOpen zero len p le f = absurd (omega arith)
behind_all RoundOpen (suc n) len p le f = f n (omega arith)
behind_all RoundClose n len p le f = f (suc n) (omega arith)
behind_all _ n len p le f = f n (omega arith)

all_fit : (n : ℕ) (ls : List Lexeme) → length ls ≤ n → Fits n ls
all_fit n [] le = tt
all_fit n (l ∷ ls) le = behind_all l.symbol n (length ls) (λ m. Fits m ls) le (λ m le. all_fit m ls le)

-- for each list there is room enough
pub room_for : (n : ℕ) (ls : List Lexeme) → length ls ≤ n → brackets.Fits n ls
unfolding brackets
room_for n ls le = all_fit n ls le

behind_shallow : (s : Symbol) (k n : ℕ) (place : Place) (f : ℕ → Option Place) (p : ℕ → Type 0) → 64 ≤ k + n
    → (if is_too_deep k s then Some place else f (open_behind k s)) ≡ None → ((j m : ℕ) → 64 ≤ j + m → f j ≡ None → p m) → Behind s n p
behind_shallow RoundOpen k n place f p le h on = by (nat_le 64 k) refl h
  where
    room : (n : ℕ) → 64 ≤ k + n → k < 64 → f (k + 1) ≡ None → Behind RoundOpen n p
    room zero le lt h = absurd (omega arith)
    room (suc n) le lt h = on (k + 1) n (omega arith) h

    by : (b : Bool) → nat_le 64 k ≡ b → (if b then Some place else f (k + 1)) ≡ None → Behind RoundOpen n p
    by true e h = absurd cc
    by false e h = room n le (leb-false 64 k e) h
behind_shallow RoundClose k n place f p le h on = on (k - 1) (suc n) (omega arith) h
behind_shallow _ k n place f p le h on = on k n le h

shallow : (k n : ℕ) (ls : List Lexeme) → 64 ≤ k + n → first_deep k ls ≡ None → Fits n ls
shallow k n [] le h = tt
shallow k n (l ∷ ls) le h = behind_shallow l.symbol k n l.place (λ j. first_deep j ls) (λ m. Fits m ls) le h (λ j m le h. shallow j m ls le h)

-- where no bracket is too deep there is room for 64
pub room_where_shallow : (ls : List Lexeme) → first_deep 0 ls ≡ None → brackets.Fits 64 ls
unfolding brackets
room_where_shallow ls h = shallow 0 64 ls (omega arith) h
