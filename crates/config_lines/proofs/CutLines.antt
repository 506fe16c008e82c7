-- A line is cut off a text, up to what stands behind the last line feed.
use Rattle.std.proofs.Common.{◌≡◌, ℕ, ◌+◌, ◌<◌, ◌≤◌, List, [], ◌∷◌, length, ◌∙◌, ap, arith}
use Rattle.std.specs.Prelude.{◌==◌}
use Rattle.std.proofs.lemmas.List.Splits.{length-slice_split}
use Rattle.std.proofs.lemmas.List.Sums.{count_by-le-length}
use Rattle.net_base.specs.Addresses.{cut_at}
use Rattle.config_lines.proofs.CutParts.{halves, no_halves, split_there, split_nowhere}
use Rattle.config_lines.specs.LineLines.{lines_of, whole_lines, last_line}
use Rattle.config_lines.proofs.WholeLines.{whole_lines-cons, last_line-cons}

pub lines_of-some : (bytes : List ℕ) → 0 < length (lines_of bytes)
lines_of-some bytes = omega (arith, length-slice_split (λ (b : ℕ). b == 10) bytes)

pub lines_of-few : (bytes : List ℕ) → length (lines_of bytes) ≤ length bytes + 1
lines_of-few bytes = omega (arith, length-slice_split (λ (b : ℕ). b == 10) bytes, count_by-le-length (λ (b : ℕ). b == 10) bytes)

-- the lines behind the first are no more than the bytes
pub few_lines : (bytes first : List ℕ) (more : List (List ℕ)) (limit : ℕ) → lines_of bytes ≡ first ∷ more → length bytes < limit → length more < limit
few_lines bytes first more limit e short = omega (arith, ap length e, lines_of-few bytes, short)

-- a line is cut off
pub whole_lines_there : (bytes line rest : List ℕ) → halves line rest ≡ cut_at 10 bytes → whole_lines (lines_of bytes) ≡ line ∷ whole_lines (lines_of rest)
whole_lines_there bytes line rest cut = ap whole_lines (split_there 10 bytes line rest cut) ∙ whole_lines-cons line (lines_of rest) (lines_of-some rest)

pub last_line_there : (bytes line rest : List ℕ) → halves line rest ≡ cut_at 10 bytes → last_line (lines_of bytes) ≡ last_line (lines_of rest)
last_line_there bytes line rest cut = ap last_line (split_there 10 bytes line rest cut) ∙ last_line-cons line (lines_of rest) (lines_of-some rest)

-- no line feed is left
pub whole_lines_nowhere : (bytes : List ℕ) → no_halves ≡ cut_at 10 bytes → whole_lines (lines_of bytes) ≡ []
whole_lines_nowhere bytes cut = ap whole_lines (split_nowhere 10 bytes cut)

pub last_line_nowhere : (bytes : List ℕ) → no_halves ≡ cut_at 10 bytes → last_line (lines_of bytes) ≡ bytes
last_line_nowhere bytes cut = ap last_line (split_nowhere 10 bytes cut)
