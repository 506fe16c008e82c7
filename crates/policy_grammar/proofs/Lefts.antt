-- What is left of a text.
use Rattle.std.proofs.Common.{◌≡◌, ℕ, ◌+◌, ◌-◌, ◌≤◌, ◌<◌, List, [], ◌∷◌, length, None, Err, refl, arith}
use Rattle.net_base.specs.declared.place.Place.{Place}
use Rattle.policy_tokens.specs.declared.token.Token.{Token}
use Rattle.policy_tokens.specs.declared.next.Next.TheVariants as next
use Rattle.policy_tokens.specs.Ahead.{Ahead, ahead_of, from_next, IsPlace, IsToken}
use Rattle.policy_grammar.specs.declared.lexeme.Lexeme.{Lexeme}
use Rattle.policy_grammar.specs.Symbols.{number_of}
use Rattle.policy_grammar.specs.Lexemes.{slice_of, lexeme_of, end_of}
use Rattle.policy_tokens.specs.declared.fault.PolicyFault.TheVariants.{Syntax}
use Rattle.policy_grammar.specs.Raw.{Step}
use Rattle.policy_grammar.specs.Calls.{word_of, call_at}
use Rattle.policy_grammar.specs.Ranked.{call_step}
use Rattle.policy_grammar.specs.Left.{lexemes_ahead, place_behind, behind, left, StandsIn}
use Rattle.policy_grammar.proofs.Symbols.{symbol_of-inner, no_end}

pub left_token : (text : List ℕ) (a : Ahead) (t : Token) → a ≡ from_next text (next.Token t) → left text (lexeme_of text t) ≡ lexemes_ahead text a
unfolding behind
left_token text a t is = rw (is, symbol_of-inner t.kind (slice_of text t.from t.to)) refl

pub left_end : (text : List ℕ) (a : Ahead) (p : Place) → a ≡ ([], next.End p) → left text (end_of p) ≡ lexemes_ahead text a
unfolding behind
left_end text a p is = rw is refl

pub left_stray : (text : List ℕ) (a : Ahead) (p : Place) → a ≡ ([], next.Stray p) → left text (end_of p) ≡ lexemes_ahead text a
unfolding behind
left_stray text a p is = rw is refl

pub stands_token : (text : List ℕ) (t : Token) → length text < 4294967295 → IsToken text (next.Token t) → StandsIn text (lexeme_of text t)
unfolding StandsIn
stands_token text t fits is = (fits, λ inside. (is.0, omega (arith, is.1), is.2))

pub stands_end : (text : List ℕ) (p : Place) → length text < 4294967295 → StandsIn text (end_of p)
unfolding StandsIn
stands_end text p fits = (fits, λ inside. absurd (omega (arith, inside)))

-- where the next lexeme is looked for
pub goes_in : (text : List ℕ) (l : Lexeme) → number_of l.symbol < 255 → StandsIn text l
    → (length text < 4294967295) × IsPlace text l.to (place_behind l) × (l.from ≤ l.to) × (l.place.column + (l.to - l.from) ≤ 4294967295)
unfolding StandsIn
goes_in text l inside stands =
    let is = stands.1 inside in
    (stands.0, (is.2, omega (arith, is.0.1, is.1), omega (arith, is.0.2, is.1)), is.1, omega (arith, is.0.2, is.1, is.2, stands.0))

pub behind_in : (text : List ℕ) (l : Lexeme) → number_of l.symbol < 255 → behind text l ≡ lexemes_ahead text (ahead_of text l.to (place_behind l))
unfolding behind
behind_in text l inside = rw (no_end (number_of l.symbol) inside) refl

-- no call begins with it
pub no_call : (out : List Step) (l : Lexeme) (ls : List Lexeme) → word_of l.symbol ≡ None → call_step out (l ∷ ls) ≡ Err (Syntax l.place)
unfolding call_at
no_call out l ls is = rw is refl
