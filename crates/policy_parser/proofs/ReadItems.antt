-- The items of a text, whose tokens are looked at before they are read.
use Rattle.std.proofs.Common.{◌≡◌, ℕ, true, false, List, length, Some, None, Result, Ok, Err, refl, ap, ◌∙◌}
use Rattle.std.specs.Str.{is_utf8}
use Rattle.net_base.specs.Steps.{◌>>=◌}
use Rattle.net_base.specs.declared.place.Place.{Place}
use Rattle.net_base.proofs.StepLemmas.{ok_same}
use Rattle.policy_tokens.specs.declared.fault.PolicyFault.{PolicyFault}
use Rattle.policy_tokens.specs.declared.fault.PolicyFault.TheVariants.{NotText, Deep}
use Rattle.policy_tokens.specs.declared.token.Token.{Token}
use Rattle.policy_tokens.specs.Places.{first_place, place_of}
use Rattle.policy_tokens.specs.Tokens.{tokens_from, tokens_of}
use Rattle.policy_tokens.specs.Ahead.{ahead_of}
use Rattle.policy_tokens.proofs.Onward.{tokens_ahead}
use Rattle.policy_grammar.specs.Raw.{Item}
use Rattle.policy_grammar.specs.Lexemes.{lexemes_of}
use Rattle.policy_grammar.specs.Left.{lexemes_ahead}
use Rattle.policy_grammar.specs.Deep.{first_deep, deep_found}
use Rattle.policy_grammar.specs.Items.{items_of}
use Rattle.policy_parser.specs.Spelled.{none_at, items_spelled}

-- the items of a text with these tokens
items_in : List ℕ → Result (List Token) PolicyFault → Result (List Item) PolicyFault
items_in bytes read = do
  tokens ← read
  _ ← none_at Deep (first_deep 0 (lexemes_of bytes tokens (place_of bytes (length bytes))))
  items_of (lexemes_of bytes tokens (place_of bytes (length bytes)))

-- the tokens of bytes that are text
abbrev Cut : List ℕ → Result (List Token) PolicyFault
Cut bytes = tokens_from (length bytes) 0 first_place bytes

spelled_in : (bytes : List ℕ) → is_utf8 bytes ≡ true → items_spelled bytes ≡ items_in bytes (Cut bytes)
unfolding items_spelled tokens_of items_in
spelled_in bytes is = rw is refl

pub no_text : (bytes : List ℕ) → is_utf8 bytes ≡ false → items_spelled bytes ≡ Err NotText
unfolding items_spelled tokens_of
no_text bytes is = rw is refl

fault_in : (bytes : List ℕ) (read : Result (List Token) PolicyFault) (e : PolicyFault) → deep_found bytes read ≡ Err e → items_in bytes read ≡ Err e
unfolding items_in
fault_in bytes (Ok ts) e is = absurd cc
fault_in bytes (Err f) e is = let same : f ≡ e = cc in ap Err same

deep_in : (bytes : List ℕ) (read : Result (List Token) PolicyFault) (p : Place) → deep_found bytes read ≡ Ok (Some p) → items_in bytes read ≡ Err (Deep p)
unfolding items_in
deep_in bytes (Ok ts) p is = rw (ok_same {F = PolicyFault} _ _ is) refl
deep_in bytes (Err f) p is = absurd cc

shallow_in : (bytes : List ℕ) (read : Result (List Token) PolicyFault) → Cut bytes ≡ read → deep_found bytes read ≡ Ok None
    → items_in bytes read ≡ items_of (lexemes_ahead bytes (ahead_of bytes 0 first_place))
unfolding items_in
shallow_in bytes (Ok ts) cut is = rw (ok_same {F = PolicyFault} _ _ is, tokens_ahead bytes ts cut) refl
shallow_in bytes (Err f) cut is = absurd cc

-- the fault of what begins no token
pub fault_first : (bytes : List ℕ) (e : PolicyFault) → is_utf8 bytes ≡ true → deep_found bytes (Cut bytes) ≡ Err e → items_spelled bytes ≡ Err e
fault_first bytes e text is = spelled_in bytes text ∙ fault_in bytes (Cut bytes) e is

-- a bracket that is too deep
pub deep_next : (bytes : List ℕ) (p : Place) → is_utf8 bytes ≡ true → deep_found bytes (Cut bytes) ≡ Ok (Some p) → items_spelled bytes ≡ Err (Deep p)
deep_next bytes p text is = spelled_in bytes text ∙ deep_in bytes (Cut bytes) p is

-- the items, where no bracket is
pub items_last : (bytes : List ℕ) → is_utf8 bytes ≡ true → deep_found bytes (Cut bytes) ≡ Ok None → items_spelled bytes ≡ items_of (lexemes_ahead bytes (ahead_of bytes 0 first_place))
items_last bytes text is = spelled_in bytes text ∙ shallow_in bytes (Cut bytes) refl is
