use Rattle.std.proofs.lemmas.List.Filters.{dedup_is}
use Rattle.list_law.proofs.Sorting.{IsIn-settled, IsStrictlySortedBy-settled}
use Rattle.relation_refute.proofs.Lining.{line_exact, line_ties, line_total}
use Rattle.relation_refute.proofs.chains.settle_lines.Goals as goal

pub returns-clause-same : goal.returns-clause-same
returns-clause-same c =
    IsIn-settled line_total line_exact line_ties c.args.lines.now.items c.sort_unstable.new.self.items c.dedup.new.self.items
    c.sort_unstable.ensures.permutation c.sort_unstable.ensures.sorted (dedup_is _ _ _ c.dedup.ensures.filtered)

pub returns-clause-order : goal.returns-clause-order
returns-clause-order c =
    IsStrictlySortedBy-settled line_total line_exact line_ties c.args.lines.now.items c.sort_unstable.new.self.items c.dedup.new.self.items
    c.sort_unstable.ensures.permutation c.sort_unstable.ensures.sorted (dedup_is _ _ _ c.dedup.ensures.filtered)
