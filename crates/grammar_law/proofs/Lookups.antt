-- What the first token is.
use Rattle.std.proofs.Common.{◌≡◌, ℕ, Bool, true, false, ◌⊎◌, inl, inr, List, [], ◌∷◌, map, Some, None, ◌+◌, arith, refl, sym, ap, ◌∙◌, eqb-true, eq-eqb, true≢false}
use Rattle.std.specs.Prelude.{◌==◌}
use lib.ListN.{get_or}
use Rattle.policy_grammar.specs.declared.lexeme.Lexeme.{Lexeme}
use Rattle.policy_grammar.specs.declared.symbol.Symbol.{Symbol}
use Rattle.policy_grammar.specs.declared.symbol.Symbol.TheVariants.{Define, Originate, At, From, True, Le, Or, And, Not, Call, Name, Figure, Arrow, Above, Equals}
use Rattle.policy_grammar.specs.declared.symbol.Symbol.TheVariants.{BraceOpen, BraceClose, RoundOpen, RoundClose, Comma, Semicolon, EndOfText}
use Rattle.policy_words.specs.declared.word.SetCall.{SetCall}
use Rattle.policy_words.specs.declared.word.SetCall.TheVariants.{Avoid, Through, NoTransit, Start, End, Exit, Enter}
use Rattle.policy_words.specs.declared.word.CallWord.{CallWord}
use Rattle.policy_words.specs.declared.word.CallWord.TheVariants.{Any, Drop, Internal, Link, Path, Of}
use Rattle.policy_grammar.specs.Symbols.{call_number, number_of, set_number}
use Rattle.policy_grammar.specs.Reading.{past}
use Rattle.grammar_law.specs.Grammar.{Is}

abbrev in_order : List Symbol
in_order =
    Define ∷ Originate ∷ At ∷ From ∷ True ∷ Le ∷ Or ∷ And ∷ Not ∷ Name ∷ Figure ∷ Arrow ∷ Above ∷ Equals
    ∷ BraceOpen ∷ BraceClose ∷ RoundOpen ∷ RoundClose ∷ Comma ∷ Semicolon
    ∷ map Call (Any ∷ Drop ∷ Internal ∷ Link ∷ Path ∷ map Of (Avoid ∷ Through ∷ NoTransit ∷ Start ∷ End ∷ Exit ∷ Enter ∷ []))

numbered : ℕ → Symbol
numbered n = get_or in_order n EndOfText

numbered-set : (c : SetCall) → numbered (25 + set_number c) ≡ Call (Of c)
unfolding numbered
numbered-set Avoid = refl
numbered-set Through = refl
numbered-set NoTransit = refl
numbered-set Start = refl
numbered-set End = refl
numbered-set Exit = refl
numbered-set Enter = refl

numbered-call : (w : CallWord) → numbered (20 + call_number w) ≡ Call w
unfolding numbered
numbered-call Any = refl
numbered-call Drop = refl
numbered-call Internal = refl
numbered-call Link = refl
numbered-call Path = refl
numbered-call (Of c) = let same : 20 + (5 + set_number c) ≡ 25 + set_number c = omega arith in ap numbered same ∙ numbered-set c

numbered-number_of : (s : Symbol) → numbered (number_of s) ≡ s
unfolding numbered
numbered-number_of Define = refl
numbered-number_of Originate = refl
numbered-number_of At = refl
numbered-number_of From = refl
numbered-number_of True = refl
numbered-number_of Le = refl
numbered-number_of Or = refl
numbered-number_of And = refl
numbered-number_of Not = refl
numbered-number_of Name = refl
numbered-number_of Figure = refl
numbered-number_of Arrow = refl
numbered-number_of Above = refl
numbered-number_of Equals = refl
numbered-number_of BraceOpen = refl
numbered-number_of BraceClose = refl
numbered-number_of RoundOpen = refl
numbered-number_of RoundClose = refl
numbered-number_of Comma = refl
numbered-number_of Semicolon = refl
numbered-number_of EndOfText = refl
numbered-number_of (Call w) = numbered-call w

same_symbol : (s t : Symbol) → number_of s ≡ number_of t → s ≡ t
same_symbol s t e = sym (numbered-number_of s) ∙ ap numbered e ∙ numbered-number_of t

-- the token stands for another symbol
abbrev pub Isnt : Symbol → Lexeme → Type 0
Isnt s l = (number_of l.symbol == number_of s) ≡ false

-- two symbols differ
abbrev pub Differ : Symbol → Symbol → Type 0
Differ s t = (number_of s == number_of t) ≡ false

pub is_or_isnt : (s : Symbol) (l : Lexeme) → Is s l ⊎ Isnt s l
is_or_isnt s l = by (number_of l.symbol == number_of s) refl
  where
    by : (b : Bool) → (number_of l.symbol == number_of s) ≡ b → Is s l ⊎ Isnt s l
    by true e = inl (record { symbol = same_symbol l.symbol s (eqb-true _ _ e) })
    by false e = inr e

test_is : (s : Symbol) (l : Lexeme) → Is s l → (number_of l.symbol == number_of s) ≡ true
test_is s l i = eq-eqb (number_of l.symbol) (number_of s) (ap number_of i.symbol)

pub past-is : (s : Symbol) (l : Lexeme) (ls : List Lexeme) → Is s l → past s (l ∷ ls) ≡ Some (l, ls)
past-is s l ls i = rw (test_is s l i) refl

pub past-isnt : (s : Symbol) (l : Lexeme) (ls : List Lexeme) → Isnt s l → past s (l ∷ ls) ≡ None
past-isnt s l ls i = rw i refl

pub is_other : (s t : Symbol) (l : Lexeme) → Is s l → Differ s t → Isnt t l
is_other s t l i d = ap (λ u. number_of u == number_of t) i.symbol ∙ d

pub not_both : (s : Symbol) (l : Lexeme) → Is s l → Isnt s l → ⊥
not_both s l i n = true≢false (sym (test_is s l i) ∙ n)

-- a token of this symbol
pub a_token : Symbol → Lexeme
a_token s = record { symbol = s; from = 0; to = 0; place = record { line = 0; column = 0 } }

pub a_token-is : (s : Symbol) → Is s (a_token s)
unfolding a_token
a_token-is s = record { symbol = refl }
