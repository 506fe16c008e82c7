use Rattle.std.proofs.lemmas.List.Filters.{dedup_is}
use Rattle.map_maker.proofs.PlaceLaws.{settled_same, settled_order}
use Rattle.map_maker.proofs.places.settle.Goals as goal

pub returns-clause-order : goal.returns-clause-order
returns-clause-order c = settled_order c.sort_unstable.new.self.items c.dedup.new.self.items c.sort_unstable.ensures.sorted (dedup_is _ _ _ c.dedup.ensures.filtered)

pub returns-clause-same : goal.returns-clause-same
returns-clause-same c = settled_same c.args.places.now.items c.sort_unstable.new.self.items c.dedup.new.self.items c.sort_unstable.ensures.permutation (dedup_is _ _ _ c.dedup.ensures.filtered)
