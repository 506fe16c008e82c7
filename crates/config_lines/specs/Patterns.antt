-- The patterns of a `class` line.
use Rattle.std.specs.Prelude.{ℕ, ◌==◌, ◌&&◌, nat_le, nat_lt, List, [], ◌∷◌, ◌++◌, Result, Ok, Err, codes}
use Rattle.std.specs.List.{slice_split}
use Rattle.net_base.specs.Prefixes.{PlainPrefix, PlainPattern, only}
use Rattle.net_base.specs.PrefixText.{prefix_spelled, length_number}
use Rattle.net_base.specs.Steps.{◌>>=◌, or_fault, unless}
use Rattle.config_lines.specs.declared.line.LineFault.{LineFault}
use Rattle.config_lines.specs.declared.line.LineFault.TheVariants.{Form}
use Rattle.config_lines.specs.Words.{is_word, as_prefix}

-- up to a length that is greater than that of the base
unfoldable pub up_to : PlainPrefix → List ℕ → Result PlainPattern LineFault
up_to base word = do
  n ← or_fault Form (length_number word)
  _ ← unless Form (nat_lt base.len n && nat_le n 32)
  Ok (record { base = base; upto = n })

-- a prefix, and behind it `le` with the greatest length where that is greater
unfoldable pub pattern_of : List (List ℕ) → Result PlainPattern LineFault
pattern_of (base ∷ []) = do
  p ← as_prefix (prefix_spelled base)
  Ok (only p)
pattern_of (base ∷ le ∷ upto ∷ []) = do
  p ← as_prefix (prefix_spelled base)
  _ ← is_word (codes "le") le
  up_to p upto
pattern_of _ = Err Form

abbrev pub behind_space : List (List ℕ) → Result PlainPattern LineFault
behind_space [] = Err Form
behind_space (gap ∷ pattern) = do
  _ ← is_word [] gap
  pattern_of pattern

-- a pattern that isn't the first stands behind a comma and a space
abbrev pub later_pattern : List ℕ → Result PlainPattern LineFault
later_pattern piece = behind_space (slice_split (λ b. b == 32) piece)

-- these patterns, and one for each piece that stands behind a comma
abbrev pub later_patterns : List PlainPattern → List (List ℕ) → Result (List PlainPattern) LineFault
later_patterns so_far [] = Ok so_far
later_patterns so_far (piece ∷ pieces) = do
  p ← later_pattern piece
  later_patterns (so_far ++ p ∷ []) pieces
