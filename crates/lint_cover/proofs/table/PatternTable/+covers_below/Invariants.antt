use Rattle.lint_cover.proofs.table.PatternTable.+covers_below.Given as goal

abbrev pub decreases-covers_below : goal.decreases-covers_below
decreases-covers_below l = l.more
