use Rattle.path_terms.proofs.store.Terms.+after.Given as goal

abbrev pub decreases-after : goal.decreases-after
decreases-after l = l.a
