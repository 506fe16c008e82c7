-- Pairs of a class of an old configuration and a class of a new one, with the patterns that they share.
use Rattle.std.specs.Prelude.{ℕ, ◌+◌, Bool, ◌&&◌, ◌||◌, nat_le, min, List, [], ◌∷◌, ◌++◌, length, map, Option, Some, None, if◌then◌else◌}
use Rattle.std.specs.List.{list_any, flat_map}
use Rattle.net_base.specs.Prefixes.{PlainPattern, contains}
use Rattle.stage_classes.specs.declared.cell.Cell.{Cell}

-- ---- patterns

-- a pattern, up to the length of another one too
abbrev pub narrowed : PlainPattern → PlainPattern → PlainPattern
narrowed q other = record { base = q.base; upto = min q.upto other.upto }

-- the pattern of the prefixes that two patterns share, if there are any
abbrev pub shared : PlainPattern → PlainPattern → Option PlainPattern
shared a b =
    if contains a b.base then Some (narrowed b a)
    else if contains b a.base then Some (narrowed a b)
    else None

-- each prefix of the second pattern is one of the first
abbrev pub covers : PlainPattern → PlainPattern → Bool
covers a b = contains a b.base && nat_le b.upto a.upto

-- one pattern of the classes covers it
abbrev pub is_covered : List (List PlainPattern) → PlainPattern → Bool
is_covered classes q = list_any (λ patterns. list_any (λ a. covers a q) patterns) classes

-- a pattern, if there is one and none of the classes before covers it
abbrev pub uncovered : List (List PlainPattern) → List (List PlainPattern) → Option PlainPattern → List PlainPattern
uncovered before seen None = []
uncovered before seen (Some q) = if is_covered before q || is_covered seen q then [] else q ∷ []

-- what two classes share, where the classes before the first one and those before the second one are these
abbrev pub common : List (List PlainPattern) → List (List PlainPattern) → List PlainPattern → List PlainPattern → List PlainPattern
common before seen first second = flat_map (λ a. flat_map (λ b. uncovered before seen (shared a b)) second) first

-- the pattern of every prefix
abbrev pub everything : PlainPattern
everything = record { base = record { bits = 0; len = 0 }; upto = 32 }

-- ---- cells

-- a cell, if it has a pattern
abbrev pub cell_if : ℕ → ℕ → List PlainPattern → List Cell
cell_if first second [] = []
cell_if first second (q ∷ qs) = record { first = first; second = second; patterns = q ∷ qs } ∷ []

-- of one class of the old configuration, with its number and those before it: its cells with classes of the new one, behind those that were seen
abbrev pub with_classes : ℕ → List PlainPattern → List (List PlainPattern) → List (List PlainPattern) → List (List PlainPattern) → List Cell
with_classes first class before seen [] = []
with_classes first class before seen (b ∷ bs) = cell_if first (length seen + 1) (common before seen class b) ++ with_classes first class before (seen ++ b ∷ []) bs

-- its cells with each class of the new one, and with none
abbrev pub row : ℕ → List PlainPattern → List (List PlainPattern) → List (List PlainPattern) → List Cell
row first class before new = with_classes first class before [] new ++ cell_if first (length new + 1) (common before new class (everything ∷ []))

-- those of classes of the old configuration, behind these
abbrev pub rows : List (List PlainPattern) → List (List PlainPattern) → List (List PlainPattern) → List Cell
rows before new [] = []
rows before new (c ∷ cs) = row (length before + 1) c before new ++ rows (before ++ c ∷ []) new cs

-- all, in order of the class of the old configuration and then of that of the new one, where no class stands behind all others
abbrev pub cells : List (List PlainPattern) → List (List PlainPattern) → List Cell
cells old new = rows [] new old ++ with_classes (length old + 1) (everything ∷ []) old [] new

-- ---- the other way round

-- the same pair, with the new class first
abbrev pub turn : Cell → Cell
turn c = record { first = c.second; second = c.first; patterns = c.patterns }

abbrev pub turned : List Cell → List Cell
turned cs = map turn cs
