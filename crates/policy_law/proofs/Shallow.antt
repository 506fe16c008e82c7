-- The end of a text opens no bracket.
use Rattle.std.proofs.Common.{◌≡◌, ℕ, List, [], ◌∷◌, ◌++◌, Option, Some, refl, ap}
use Rattle.std.specs.Prelude.{if◌then◌else◌}
use Rattle.net_base.specs.declared.place.Place.{Place}
use Rattle.policy_grammar.specs.declared.lexeme.Lexeme.{Lexeme}
use Rattle.policy_grammar.specs.Lexemes.{end_of}
use Rattle.policy_grammar.specs.Deep.{open_behind, is_too_deep, first_deep}

pub deep_before_end : (n : ℕ) (ls : List Lexeme) (place : Place) → first_deep n (ls ++ end_of place ∷ []) ≡ first_deep n ls
deep_before_end n [] place = refl
deep_before_end n (l ∷ ls) place = ap (λ (o : Option Place). if is_too_deep n l.symbol then Some l.place else o) (deep_before_end (open_behind n l.symbol) ls place)
