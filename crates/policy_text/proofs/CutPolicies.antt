-- The lexemes of a printed text.
use Rattle.std.proofs.Common.{◌≡◌, ℕ, zero, suc, List, [], ◌∷◌, ◌++◌, length, map, Ok, refl, subst, arith, append-nil}
use Rattle.std.specs.List.{AllByRecursion}
use Rattle.std.specs.Str.{IsAscii}
use Rattle.std.proofs.lemmas.Str.{is_utf8-from_IsUtf8, IsUtf8-from_ascii}
use Rattle.net_base.specs.declared.place.Place.{Place}
use Rattle.net_base.specs.Network.{PlainNet, sites}
use Rattle.net_base.specs.Prefixes.{IsPattern, IsPrefix}
use Rattle.policy_tokens.specs.declared.token.Token.{Token}
use Rattle.policy_tokens.specs.Places.{first_place, place_of}
use Rattle.policy_tokens.specs.Tokens.{tokens_from, tokens_of}
use Rattle.policy_grammar.specs.declared.lexeme.Lexeme.{Lexeme}
use Rattle.policy_grammar.specs.declared.symbol.Symbol.TheVariants.{EndOfText}
use Rattle.policy_grammar.specs.Lexemes.{lexeme_of, lexemes_of, end_of}
use Rattle.policy_base.specs.declared.policy.Origin.{Origin}
use Rattle.policy_base.specs.Policies.{PlainStatement, PlainPolicy}
use Rattle.policy_text.specs.PolicyText.{policy_text}
use Rattle.policy_text.proofs.Words.{Word, sign, AreWords, policy_words}
use Rattle.policy_text.proofs.Cuts.{IsCut, IsCut-nil, AreAscii}
use Rattle.policy_text.proofs.CutTexts.{AreNamed, Cuts-policy}

is_ascii : (bs : List ℕ) → AreAscii bs → IsAscii bs
is_ascii [] all i = omega arith
is_ascii (b ∷ bs) all zero = all.0
is_ascii (b ∷ bs) all (suc i) = is_ascii bs all.1 i

with_end : (bytes : List ℕ) (ls : List Lexeme) (ws : List Word) (place : Place) → AreWords bytes ls ws → AreWords bytes (ls ++ end_of place ∷ []) (ws ++ sign EndOfText ∷ [])
with_end bytes [] [] place all = (refl, tt)
with_end bytes [] (w ∷ ws) place all = absurd all
with_end bytes (l ∷ ls) [] place all = absurd all
with_end bytes (l ∷ ls) (w ∷ ws) place all = (all.0, with_end bytes ls ws place all.1)

tokens_there : (bytes : List ℕ) (ts : List Token) → AreAscii bytes → tokens_from (length bytes) 0 first_place bytes ≡ Ok ts → tokens_of bytes ≡ Ok ts
unfolding tokens_of
tokens_there bytes ts ascii h = rw (is_utf8-from_IsUtf8 bytes (IsUtf8-from_ascii bytes (is_ascii bytes ascii)), h) refl

-- The lexemes of a printed text are its words, and the end.
pub lexemes_are_words : (net : PlainNet) (policy : PlainPolicy) → AreNamed (sites net) → AllByRecursion (λ (o : Origin). IsPrefix o.prefix) policy.origins
    → AllByRecursion (λ (s : PlainStatement). AllByRecursion IsPattern s.patterns) policy.statements
    → (ts : List Token)
    × (tokens_of (policy_text net policy) ≡ Ok ts)
    × AreWords (policy_text net policy) (lexemes_of (policy_text net policy) ts (place_of (policy_text net policy) (length (policy_text net policy)))) (policy_words net policy ++ sign EndOfText ∷ [])
lexemes_are_words net policy named prefixes patterns =
    let bytes : List ℕ = policy_text net policy in
    let ws : List Word = policy_words net policy in
    let padded : IsCut (bytes ++ []) (ws ++ []) = (Cuts-policy net named policy prefixes patterns).cut [] [] IsCut-nil in
    let whole : IsCut bytes ws = subst (λ (b : List ℕ). IsCut b ws) (append-nil bytes) (subst (λ (w : List Word). IsCut (bytes ++ []) w) (append-nil ws) padded) in
    let there = whole.cut bytes [] 0 (length bytes) first_place refl refl (omega arith) in
    (there.0, tokens_there bytes there.0 whole.ascii there.1, with_end bytes (map (lexeme_of bytes) there.0) ws _ there.2)
