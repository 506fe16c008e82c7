-- What the patterns of a statement come to.
use Rattle.std.specs.Prelude.{ℕ, ◌+◌, nat_le, List, [], ◌∷◌, ◌++◌, Result, Ok, Err, ⊤, if◌then◌else◌}
use Rattle.policy_base.specs.declared.limits.TheConstants.{PATTERNS}
use Rattle.net_base.specs.Prefixes.{PlainPattern}
use Rattle.net_base.specs.Steps.{◌>>=◌}
use Rattle.policy_tokens.specs.declared.fault.PolicyFault.{PolicyFault}
use Rattle.policy_grammar.specs.declared.lexeme.Lexeme.{Lexeme}
use Rattle.policy_grammar.specs.Raw.{RawPattern}
use Rattle.policy_grammar.specs.Reading.{Read}
use Rattle.policy_grammar.specs.Items.{pattern_at as pattern_in}
use Rattle.policy_rules.specs.Figures.{pattern_at}
use Rattle.policy_values.specs.declared.patterns.PatternsRead.{PatternsRead}
use Rattle.policy_values.specs.Reads.{over}

-- how many there are, the first figure that is no prefix or no length, and those that are kept
pub record PatternsValue : Type 0 where
  pub count : ℕ
  pub figures : Result ⊤ PolicyFault
  pub list : List PlainPattern

abbrev pub plain_patterns : PatternsRead → PatternsValue
plain_patterns p = record { count = p.count; figures = p.figures; list = p.list.items }

-- a pattern more where each figure is fine: no more are kept than a policy may have
abbrev pub with_fine : PatternsValue → Result PlainPattern PolicyFault → PatternsValue
with_fine so_far (Ok q) = record { count = so_far.count + 1; figures = Ok tt; list = if nat_le (so_far.count + 1) PATTERNS then so_far.list ++ q ∷ [] else so_far.list }
with_fine so_far (Err e) = record { count = so_far.count + 1; figures = Err e; list = so_far.list }

-- a pattern more; the first bad figure stays the fault
abbrev pub with_pattern : PatternsValue → Result PlainPattern PolicyFault → PatternsValue
with_pattern so_far read = with_fine so_far (so_far.figures >>= λ _. read)

abbrev pub no_patterns : PatternsValue
no_patterns = record { count = 0; figures = Ok tt; list = [] }

-- what was read so far, and some patterns more
abbrev pub patterns_behind : List ℕ → PatternsValue → List RawPattern → PatternsValue
patterns_behind bytes so_far [] = so_far
patterns_behind bytes so_far (p ∷ ps) = patterns_behind bytes (with_pattern so_far (pattern_at bytes p)) ps

abbrev pub patterns_value : List ℕ → List RawPattern → PatternsValue
patterns_value bytes ps = patterns_behind bytes no_patterns ps

abbrev pub value_link : List ℕ → Lexeme → PatternsValue → List Lexeme → Read PatternsValue
value_link bytes joint so_far ls = do
  x ← over (pattern_at bytes) (pattern_in ls)
  Ok (with_pattern so_far x.0, x.1)
