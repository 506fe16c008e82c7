-- The texts of an impact, and of what cuts change and move.
use Rattle.std.specs.Prelude.{ℕ, Bool, not, ◌||◌, ◌==◌, List, ◌++◌, length, filter, codes, Option, Some, None}
use Rattle.std.specs.Fmt.{decimal}
use Rattle.std.specs.List.{flat_map, zip}
use Rattle.net_base.specs.Network.{PlainNet}
use Rattle.net_base.specs.Prefixes.{PlainPrefix}
use Rattle.config_base.specs.Configs.{PlainConfig}
use Rattle.outcome_report.specs.Lines.{head_lines, next_name, source_text}
use Rattle.impact_law.specs.declared.impact.Cut.{Cut}
use Rattle.impact_law.specs.declared.impact.Cut.TheVariants.{Link, Router}
use Rattle.impact_law.specs.declared.impact.CutRow.{CutRow}
use Rattle.impact_law.specs.declared.impact.Impact.{Impact}
use Rattle.impact_law.specs.declared.impact.Moves.{Moves}
use Rattle.impact_law.specs.declared.impact.SourceRank.{SourceRank}
use Rattle.impact_law.specs.declared.impact.WhatIf.{WhatIf}

-- ---- parts of a line

abbrev pub rank_text : Option ℕ → List ℕ
rank_text None = codes " none"
rank_text (Some n) = codes " rank " ++ decimal n

-- ---- lines

-- a source with its best rank
unfoldable pub entry_line : PlainNet → SourceRank → List ℕ
entry_line net x = source_text net x.router x.peer ++ rank_text x.rank ++ codes "\n"

abbrev pub base_line : PlainNet → SourceRank → List ℕ
base_line net x = codes "base " ++ entry_line net x

abbrev pub cut_text : PlainNet → Cut → List ℕ
cut_text net (Link a b) = codes "cut link" ++ next_name net a ++ next_name net b
cut_text net (Router r) = codes "cut router" ++ next_name net r

unfoldable pub count_line : ℕ → ℕ → List ℕ
count_line cuts changed = codes "cuts " ++ decimal cuts ++ codes " changed " ++ decimal changed ++ codes "\n"

-- the prefix and its class, and a line for each claimed source
abbrev pub base_text : PlainNet → PlainConfig → PlainPrefix → List SourceRank → List ℕ
base_text net config p base = head_lines config p ++ flat_map (base_line net) base

-- ---- of an impact

-- a cut and what it changes
unfoldable pub row_text : PlainNet → CutRow → List ℕ
row_text net row = cut_text net row.cut ++ codes "\n" ++ flat_map (entry_line net) row.changed

abbrev pub changes : CutRow → Bool
changes row = not (length row.changed == 0)

-- The prefix and its class, a line for each claimed source, each cut that changes something with the sources that it changes, and how many
-- cuts there are and how many change something.
abbrev pub impact_text : PlainNet → PlainConfig → PlainPrefix → Impact → List ℕ
impact_text net config p impact =
    let told = filter changes impact.rows in
    base_text net config p impact.base
    ++ flat_map (row_text net) told
    ++ count_line (length impact.rows) (length told)

-- ---- of what a cut besides changes, and whom it moves

-- how many routers a cut moves to another route, and how many to another multipath set
unfoldable pub counts_text : Moves → List ℕ
counts_text m = codes " moves " ++ decimal m.routes ++ codes " shifts " ++ decimal m.sets ++ codes "\n"

-- a cut, how many it moves, and what it changes
unfoldable pub moves_text : PlainNet → CutRow × Moves → List ℕ
moves_text net row = cut_text net row.0.cut ++ counts_text row.1 ++ flat_map (entry_line net) row.0.changed

abbrev pub changes_or_moves : CutRow × Moves → Bool
changes_or_moves row = changes row.0 || not (row.1.routes == 0) || not (row.1.sets == 0)

-- the same, where each cut that changes or moves something tells how many it moves
abbrev pub what_if_text : PlainNet → PlainConfig → PlainPrefix → WhatIf → List ℕ
what_if_text net config p w =
    let told = filter changes_or_moves (zip w.impact.rows w.moves) in
    base_text net config p w.impact.base
    ++ flat_map (moves_text net) told
    ++ count_line (length w.impact.rows) (length told)
