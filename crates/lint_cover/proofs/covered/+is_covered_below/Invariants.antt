use Rattle.lint_cover.proofs.covered.+is_covered_below.Given as goal

abbrev pub decreases-is_covered_below : goal.decreases-is_covered_below
decreases-is_covered_below l = l.more
