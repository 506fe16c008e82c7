-- Groups whose names are used nowhere.
use Rattle.std.specs.Prelude.{ℕ, ◌&&◌, ◌==◌, Bool, List, [], ◌∷◌, ◌++◌, Option, Some, None, codes, count_by, unwrap_or, if◌then◌else◌}
use Rattle.std.proofs.Common.{Bor}
use Rattle.std.specs.HashMap.{HashMap, get_by}
use Rattle.std.specs.Str.{bytes_eq}
use Rattle.net_base.specs.NameRule.{is_name}
use Rattle.policy_tokens.specs.declared.token.Token.{Token}
use Rattle.policy_grammar.specs.Lexemes.{slice_of}

-- the bytes of a token
abbrev pub token_text : List ℕ → Token → List ℕ
token_text bytes t = slice_of bytes t.from t.to

-- the name of the group that these tokens begin to define, if they do
abbrev pub group_in : List ℕ → List Token → Option (List ℕ)
group_in bytes (t ∷ n ∷ ts) = if bytes_eq (token_text bytes t) (codes "define") && is_name (token_text bytes n) then Some (token_text bytes n) else None
group_in bytes _ = None

abbrev pub named : Option (List ℕ) → List (List ℕ)
named (Some name) = name ∷ []
named None = []

-- the names of the groups, in order of the text: each stands behind a `define`
abbrev pub group_names : List ℕ → List Token → List (List ℕ)
group_names bytes [] = []
group_names bytes (t ∷ ts) = named (group_in bytes (t ∷ ts)) ++ group_names bytes ts

-- how many tokens have this text
abbrev pub times : List ℕ → List Token → List ℕ → ℕ
times bytes tokens name = count_by (λ t. bytes_eq (token_text bytes t) name) tokens

-- the same by a table
abbrev pub count_of : {S : Type 0} → HashMap (Bor (List ℕ)) ℕ S → List ℕ → ℕ
count_of counts name = unwrap_or (get_by (λ k. bytes_eq name k.now) counts) 0

-- the name is no token but the one in its `define`
abbrev pub is_unused : List ℕ → List Token → List ℕ → Bool
is_unused bytes tokens name = times bytes tokens name == 1
