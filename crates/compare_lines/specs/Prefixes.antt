-- Lines of prefixes.
use Rattle.std.specs.Prelude.{ℕ, ◌-◌, ◌/◌, ◌^◌, ◌==◌, Bool, ◌&&◌, nat_lt, List, [], ◌∷◌, ◌++◌, codes, if◌then◌else◌}
use Rattle.net_base.specs.Prefixes.{PlainPrefix, same_prefix}
use Rattle.text_parts.specs.Texts.{pattern_text, prefix_text}
use Rattle.compare_base.specs.declared.pairs.CommonPattern.{CommonPattern}

unfoldable pub last_text : PlainPrefix → PlainPrefix → List ℕ
last_text first last = if same_prefix first last then [] else codes " to " ++ prefix_text last

-- a line for the prefixes from one to another
unfoldable pub run_line : List ℕ → PlainPrefix → PlainPrefix → List ℕ
run_line word first last = word ++ prefix_text first ++ last_text first last ++ codes "\n"

-- the other one follows without a gap, at the same length: the address before it is in this one
abbrev pub follows : PlainPrefix → PlainPrefix → Bool
follows p q = p.len == q.len && (nat_lt 0 q.bits && (q.bits - 1) / 2 ^ (32 - p.len) == p.bits / 2 ^ (32 - p.len))

-- The prefixes from one on: each that follows the one before it is on its line.
abbrev pub run_lines_from : List ℕ → PlainPrefix → PlainPrefix → List PlainPrefix → List ℕ
run_lines_from word first last [] = run_line word first last
run_lines_from word first last (p ∷ ps) = if follows last p then run_lines_from word first p ps else run_line word first last ++ run_lines_from word p p ps

abbrev pub run_lines : List ℕ → List PlainPrefix → List ℕ
run_lines word [] = []
run_lines word (p ∷ ps) = run_lines_from word p p ps

unfoldable pub least_text : CommonPattern → List ℕ
least_text c = if same_prefix c.least c.pattern.base then [] else codes " as " ++ prefix_text c.least

-- what two first patterns both contain, with the least prefix of which they are the first where that isn't its base
unfoldable pub common_line : CommonPattern → List ℕ
common_line c = codes "prefix " ++ pattern_text c.pattern ++ least_text c ++ codes "\n"
