-- The lines of a text, and how they are taken.
use Rattle.std.specs.Prelude.{ℕ, ◌+◌, ◌-◌, ◌==◌, take, slice_index_or, List, [], ◌∷◌, length, Result, Ok}
use Rattle.std.specs.List.{slice_split}
use Rattle.net_base.specs.Steps.{◌>>=◌}

-- the text is cut at each line feed; the last line is what stands behind the last of them
abbrev pub lines_of : List ℕ → List (List ℕ)
lines_of bytes = slice_split (λ b. b == 10) bytes

-- all but the last
abbrev pub whole_lines : List (List ℕ) → List (List ℕ)
whole_lines lines = take (length lines - 1) lines

abbrev pub last_line : List (List ℕ) → List ℕ
last_line lines = slice_index_or lines (length lines - 1) []

-- line by line, of which the first one has this number: each is taken by what was read before it
abbrev pub line_by_line : {R F : Type 0} → (ℕ → R → List ℕ → Result R F) → ℕ → R → List (List ℕ) → Result R F
line_by_line with_line n r [] = Ok r
line_by_line with_line n r (line ∷ more) = do
  next ← with_line n r line
  line_by_line with_line (n + 1) next more
