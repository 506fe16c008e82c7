-- The words of what a fault can count.
use Rattle.std.specs.Prelude.{ℕ, List, codes}
use Rattle.policy_tokens.specs.declared.kind.Kind.{Kind}
use Rattle.policy_tokens.specs.declared.kind.Kind.TheVariants as kind

-- the word of what is counted
abbrev pub kind_word : Kind → List ℕ
kind_word kind.Definitions = codes "definitions"
kind_word kind.Statements = codes "statements"
kind_word kind.Patterns = codes "patterns"
kind_word kind.Prefixes = codes "prefixes"
kind_word kind.Origins = codes "origins"
kind_word kind.Calls = codes "calls"
kind_word kind.Places = codes "places"
