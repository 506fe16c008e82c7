-- Brackets that are counted token by token.
use Rattle.std.proofs.Common.{◌≡◌, ℕ, false, List, [], ◌∷◌, length, Option, Some, None, Result, Ok, Err, refl, sym, ap, ◌∙◌}
use Rattle.net_base.specs.declared.place.Place.{Place}
use Rattle.policy_tokens.specs.declared.fault.PolicyFault.{PolicyFault}
use Rattle.policy_tokens.specs.declared.fault.PolicyFault.TheVariants as fault
use Rattle.policy_tokens.specs.declared.token.Token.{Token}
use Rattle.policy_tokens.specs.declared.next.Next.{Next}
use Rattle.policy_tokens.specs.declared.next.Next.TheVariants as next
use Rattle.policy_tokens.specs.declared.token.TokenKind.{TokenKind}
use Rattle.policy_tokens.specs.declared.token.TokenKind.TheVariants as kind
use Rattle.policy_tokens.specs.Places.{first_place}
use Rattle.policy_tokens.specs.Tokens.{tokens_from}
use Rattle.policy_tokens.specs.Ahead.{Ahead, ahead_of, from_next, told}
use Rattle.policy_tokens.proofs.Onward.{tokens_told, tokens_ahead}
use Rattle.policy_grammar.specs.declared.lexeme.Lexeme.{Lexeme}
use Rattle.policy_grammar.specs.Symbols.{symbol_of}
use Rattle.policy_grammar.specs.Lexemes.{end_of}
use Rattle.policy_grammar.specs.Left.{lexemes_ahead}
use Rattle.policy_grammar.specs.Deep.{is_too_deep, open_behind, first_deep, deep_from, deep_found}
use Rattle.policy_grammar.proofs.Symbols.{word_plain}

-- ---- one token more

pub uncounted_symbol : (k : TokenKind) (bytes : List ℕ) (n : ℕ) → (k ≡ kind.RoundOpen → ⊥) → (k ≡ kind.RoundClose → ⊥)
    → (is_too_deep n (symbol_of k bytes) ≡ false) × (open_behind n (symbol_of k bytes) ≡ n)
uncounted_symbol kind.Word bytes n not_open not_close = word_plain bytes n
uncounted_symbol kind.Figure bytes n not_open not_close = (refl, refl)
uncounted_symbol kind.Arrow bytes n not_open not_close = (refl, refl)
uncounted_symbol kind.Above bytes n not_open not_close = (refl, refl)
uncounted_symbol kind.Equals bytes n not_open not_close = (refl, refl)
uncounted_symbol kind.BraceOpen bytes n not_open not_close = (refl, refl)
uncounted_symbol kind.BraceClose bytes n not_open not_close = (refl, refl)
uncounted_symbol kind.RoundOpen bytes n not_open not_close = absurd (not_open refl)
uncounted_symbol kind.RoundClose bytes n not_open not_close = absurd (not_close refl)
uncounted_symbol kind.Comma bytes n not_open not_close = (refl, refl)
uncounted_symbol kind.Semicolon bytes n not_open not_close = (refl, refl)

-- it is no bracket
pub uncounted : (k : TokenKind) (deep : Option Place) (n : ℕ) (bytes : List ℕ) (l : Lexeme) (ls : List Lexeme) → (k ≡ kind.RoundOpen → ⊥) → (k ≡ kind.RoundClose → ⊥) → l.symbol ≡ symbol_of k bytes
    → deep_from deep n ls ≡ deep_from deep n (l ∷ ls)
uncounted k (Some p) n bytes l ls not_open not_close is = refl
uncounted k None n bytes l ls not_open not_close is = let u = uncounted_symbol k bytes n not_open not_close in rw (is, u.0, u.1) refl

-- ---- all tokens

end_shallow : (deep : Option Place) (count : ℕ) (p : Place) → deep_from deep count (end_of p ∷ []) ≡ deep
end_shallow (Some q) count p = refl
end_shallow None count p = refl

told_end : (p : Place) (a : Ahead) → next.End p ≡ a.1 → told a ≡ Ok a.0
told_end p (ts, next.Token t) is = refl
told_end p (ts, next.End q) is = refl
told_end p (ts, next.Stray q) is = absurd cc

told_stray : (p : Place) (a : Ahead) → next.Stray p ≡ a.1 → told a ≡ Err (fault.Token p)
told_stray p (ts, next.Token t) is = absurd cc
told_stray p (ts, next.End q) is = absurd cc
told_stray p (ts, next.Stray q) is = let same : p ≡ q = cc in rw same refl

-- what a whole text has
abbrev pub Found : List ℕ → Result (Option Place) PolicyFault
Found text = deep_found text (tokens_from (length text) 0 first_place text)

all_counted : (text : List ℕ) (ts : List Token) (deep : Option Place) (count : ℕ) (p : Place) → tokens_from (length text) 0 first_place text ≡ Ok ts
    → deep_from deep count (end_of p ∷ []) ≡ deep_from None 0 (lexemes_ahead text (ahead_of text 0 first_place)) → Found text ≡ Ok deep
all_counted text ts deep count p is so_far =
    ap (deep_found text) is ∙ ap Ok (sym (ap (λ a. first_deep 0 (lexemes_ahead text a)) (tokens_ahead text ts is)) ∙ sym so_far ∙ end_shallow deep count p)

pub counted : (text : List ℕ) (deep : Option Place) (count : ℕ) (x : Next) → ((t : Token) → x ≡ next.Token t → ⊥) → ((p : Place) → x ≡ next.Stray p → ⊥)
    → (from_next text x).1 ≡ (ahead_of text 0 first_place).1
    → deep_from deep count (lexemes_ahead text (from_next text x)) ≡ deep_from None 0 (lexemes_ahead text (ahead_of text 0 first_place))
    → Found text ≡ Ok deep
counted text deep count (next.Token t) not_token not_stray end so_far = absurd (not_token t refl)
counted text deep count (next.Stray p) not_token not_stray end so_far = absurd (not_stray p refl)
counted text deep count (next.End p) not_token not_stray end so_far =
    all_counted text (ahead_of text 0 first_place).0 deep count p (tokens_told (length text) 0 first_place text ∙ told_end p (ahead_of text 0 first_place) end) so_far

pub strayed : (text : List ℕ) (x : Next) (p : Place) → x ≡ next.Stray p → (from_next text x).1 ≡ (ahead_of text 0 first_place).1 → Found text ≡ Err (fault.Token p)
strayed text (next.Token t) p is end = absurd cc
strayed text (next.End q) p is end = absurd cc
strayed text (next.Stray q) p is end =
    let same : q ≡ p = cc in
    ap (deep_found text) (tokens_told (length text) 0 first_place text ∙ told_stray q (ahead_of text 0 first_place) end) ∙ ap (λ z. Err (fault.Token z)) same
