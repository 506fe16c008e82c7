-- What tokens stand for.
use Rattle.std.proofs.Common.{◌≡◌, ℕ, ◌+◌, ◌<◌, Bool, true, false, List, Option, Some, None, refl, eqb-true, arith}
use Rattle.std.specs.Prelude.{◌==◌, option_map}
use Rattle.std.specs.Option.{unwrap_or}
use Rattle.policy_tokens.specs.declared.token.TokenKind.{TokenKind}
use Rattle.policy_tokens.specs.declared.token.TokenKind.TheVariants as kind
use Rattle.policy_grammar.specs.declared.symbol.Symbol.{Symbol}
use Rattle.policy_grammar.specs.declared.symbol.Symbol.TheVariants.{Call, Name, RoundOpen, RoundClose, EndOfText}
use Rattle.policy_grammar.specs.Symbols.{set_number, call_number, number_of, symbol_of_word, word_symbol, symbol_of}
use Rattle.policy_words.specs.declared.word.SetCall.{SetCall}
use Rattle.policy_words.specs.declared.word.SetCall.TheVariants.{Avoid, Through, NoTransit, Start, End, Exit, Enter}
use Rattle.policy_words.specs.declared.word.CallWord.{CallWord}
use Rattle.policy_words.specs.declared.word.CallWord.TheVariants.{Any, Drop, Internal, Link, Path, Of}
use Rattle.policy_words.specs.declared.word.Word.{Word}
use Rattle.policy_words.specs.declared.word.Word.TheVariants as word
use Rattle.policy_words.specs.Words.{word_named}
use Rattle.policy_grammar.specs.Deep.{is_too_deep, open_behind}

-- ---- the numbers of calls

set_number-small : (c : SetCall) → set_number c < 100
set_number-small Avoid = omega arith
set_number-small Through = omega arith
set_number-small NoTransit = omega arith
set_number-small Start = omega arith
set_number-small End = omega arith
set_number-small Exit = omega arith
set_number-small Enter = omega arith

call_number-small : (w : CallWord) → call_number w < 200
call_number-small Any = omega arith
call_number-small Drop = omega arith
call_number-small Internal = omega arith
call_number-small Link = omega arith
call_number-small Path = omega arith
call_number-small (Of c) = omega (arith, set_number-small c)

unequal : (m n : ℕ) → (m ≡ n → ⊥) → (m == n) ≡ false
unequal m n apart = by (m == n) refl
  where
    by : (b : Bool) → (m == n) ≡ b → (m == n) ≡ false
    by true e = absurd (apart (eqb-true m n e))
    by false e = e

-- a call differs from all that is no call
pub call_apart : (w : CallWord) (n : ℕ) → n < 20 → (20 + call_number w == n) ≡ false
call_apart w n low = unequal (20 + call_number w) n (λ e. omega (arith, e, low))

-- it isn't the end of the text
pub call_before_end : (w : CallWord) → number_of (Call w) < number_of EndOfText
call_before_end w = omega (arith, call_number-small w)

call_no_end : (w : CallWord) → (20 + call_number w == 255) ≡ false
call_no_end w = unequal (20 + call_number w) 255 (λ e. omega (arith, e, call_number-small w))

-- ---- a word stands for no sign

-- neither a bracket nor the end of the text
abbrev pub IsInner : Symbol → Type 0
IsInner RoundOpen = ⊥
IsInner RoundClose = ⊥
IsInner EndOfText = ⊥
IsInner _ = Unit {0}

word_inner : (w : Word) → IsInner (symbol_of_word w)
word_inner word.Define = tt
word_inner word.Originate = tt
word_inner word.At = tt
word_inner word.From = tt
word_inner word.True = tt
word_inner word.Le = tt
word_inner word.Or = tt
word_inner word.And = tt
word_inner word.Not = tt
word_inner (word.Call w) = tt

word_symbol-inner : (bs : List ℕ) → IsInner (word_symbol bs)
unfolding word_symbol
word_symbol-inner bs = by (word_named bs)
  where
    by : (o : Option Word) → IsInner (unwrap_or (option_map symbol_of_word o) Name)
    by (Some w) = word_inner w
    by None = tt

-- ---- no token stands for the end of the text

inner_no_end : (s : Symbol) → IsInner s → (number_of s == number_of EndOfText) ≡ false
inner_no_end RoundOpen inner = absurd inner
inner_no_end RoundClose inner = absurd inner
inner_no_end EndOfText inner = absurd inner
inner_no_end (Call w) inner = call_no_end w
inner_no_end _ inner = refl

pub symbol_of-inner : (k : TokenKind) (bs : List ℕ) → (number_of (symbol_of k bs) == number_of EndOfText) ≡ false
symbol_of-inner kind.Word bs = inner_no_end (word_symbol bs) (word_symbol-inner bs)
symbol_of-inner kind.Figure bs = refl
symbol_of-inner kind.Arrow bs = refl
symbol_of-inner kind.Above bs = refl
symbol_of-inner kind.Equals bs = refl
symbol_of-inner kind.BraceOpen bs = refl
symbol_of-inner kind.BraceClose bs = refl
symbol_of-inner kind.RoundOpen bs = refl
symbol_of-inner kind.RoundClose bs = refl
symbol_of-inner kind.Comma bs = refl
symbol_of-inner kind.Semicolon bs = refl

pub no_end : (n : ℕ) → n < 255 → (n == 255) ≡ false
no_end n lt = unequal n 255 (λ e. omega (arith, e, lt))

-- ---- only brackets count

plain : (s : Symbol) (n : ℕ) → IsInner s → (is_too_deep n s ≡ false) × (open_behind n s ≡ n)
plain RoundOpen n inner = absurd inner
plain RoundClose n inner = absurd inner
plain _ n inner = (refl, refl)

pub word_plain : (bs : List ℕ) (n : ℕ) → (is_too_deep n (word_symbol bs) ≡ false) × (open_behind n (word_symbol bs) ≡ n)
word_plain bs n = plain (word_symbol bs) n (word_symbol-inner bs)
